use Rattle.std.proofs.Common.{rules}
use Rattle.rules.specs.Book.{is_posted}
use Rattle.ledger.specs.Flat.{posting_in}
use Rattle.ledger.proofs.RangeLaws.{none-over}
use Rattle.ledger.proofs.postings.any_posted.Goals as goal

pub returns : goal.returns
returns c =
    none-over 16 (λ number. is_posted (posting_in c.args.held.now number)) _ c.any.ensures.ran (λ k b q called. search rules)
