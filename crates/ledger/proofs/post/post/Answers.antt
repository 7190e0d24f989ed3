use Rattle.std.specs.Prelude.{◌≡◌, ℕ, ◌<◌}
use mathlib.Core.Path.{refl, sym}
use mathlib.Core.Option.{none}
use borrow.Author.Tests.{leb-false}
use Rattle.money.specs.Causes.{first_of}
use Rattle.rules.specs.Limits.{product_limit}
use Rattle.rules.specs.Post.{post_causes, posted}
use Rattle.rules.proofs.Accepted.{all-clear}
use Rattle.ledger.specs.Types.{Book, Posting}
use Rattle.ledger.specs.Flat.{rows_of, book_of}
use Rattle.ledger.proofs.Refusing.{no_rows, turned_down, carried_out}
use Rattle.ledger.proofs.post.post.Goals as goal

product-listed : (book : Book) (product : ℕ) (posting : Posting) → none ≡ first_of (post_causes book product posting) → product < product_limit
unfolding post_causes
product-listed book product posting e = leb-false product_limit product (all-clear (post_causes book product posting) (sym e) 20)

pub returns-in_err-post_refusal : goal.returns-in_err-post_refusal
returns-in_err-post_refusal c kinds units =
    let rows = rows_of c.args.held.now kinds units in
    turned_down _ _ rows _ _ _ _ c.from_residual.ensures.1 (c.in_err-post_refusal.ensures rows) refl

pub put_posting-requires : goal.put_posting-requires
put_posting-requires c =
    rw c.from.ensures (product-listed (book_of c.args.scalars no_rows) _ _ (c.in_ok-post_refusal.ensures no_rows))

pub returns : goal.returns
unfolding posted
returns c kinds units =
    let put = c.put_posting.ensures in
    let rows = rows_of c.args.held.now kinds units in
    carried_out _ _ rows _ _ (c.in_ok-post_refusal.ensures rows) c.accepted.ensures (rw (put.0, put.1, c.from.ensures))
