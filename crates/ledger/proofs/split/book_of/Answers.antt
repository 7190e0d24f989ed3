use Rattle.std.proofs.Common.{rules}
use Rattle.rules.specs.Book.{no_security, no_posting}
use Rattle.ledger.specs.Flat.{security_in, posting_in}
use Rattle.ledger.proofs.RangeLaws.{made-by}
use Rattle.ledger.proofs.split.book_of.Goals as goal

pub returns : goal.returns
returns c =
    let held = c.args.held.now in
    rw (
      made-by (security_in held) _ c.from_fn.result no_security (λ k y q called. search rules) 32 c.from_fn.ensures.items,
      made-by (posting_in held) _ c.from_fn-2.result no_posting (λ k y q called. search rules) 16 c.from_fn-2.ensures.items,
    )
