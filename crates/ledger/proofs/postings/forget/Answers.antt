use Rattle.std.proofs.Common.{rules}
use Rattle.ledger.proofs.HeldLaws.{forgotten}
use Rattle.ledger.proofs.postings.forget.Goals as goal

pub returns : goal.returns
returns c =
    forgotten _ _ c.told-held (search rules)
