use Rattle.ledger.proofs.FlatLaws.{length-trades}
use Rattle.ledger.proofs.initial.is_full.Goals as goal

pub returns : goal.returns
returns c =
    rw length-trades (rw c.slots.ensures at c.is_full.ensures)
