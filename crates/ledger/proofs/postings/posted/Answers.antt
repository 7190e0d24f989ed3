use Rattle.std.proofs.Common.{arith, sym, ap, ◌∙◌}
use Rattle.std.specs.Bool.{then_some}
use Rattle.rules.specs.Book.{is_posted}
use Rattle.ledger.specs.Types.{Posting}
use Rattle.ledger.proofs.PostingLaws.{posting-for}
use Rattle.ledger.proofs.postings.posted.Goals as goal

pub returns : goal.returns
returns c =
    c.then_some.ensures
    ∙ ap (λ (posting : Posting). then_some (is_posted posting) posting)
    (c.posting_at-posting.ensures ∙ sym (posting-for c.args.held.now c.args.product c.in_ok-checked_sub.field-0 (omega (arith, c.in_ok-checked_sub.ensures)) c.requires))
