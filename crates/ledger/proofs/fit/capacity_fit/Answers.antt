use mathlib.Core.Path.{sym}
use borrow.Author.Tests.{le-leb, lt-leb}
use Rattle.rules.specs.Fit.{capacity_fit}
use Rattle.ledger.proofs.FlatLaws.{length-trades}
use Rattle.ledger.proofs.fit.capacity_fit.Goals as goal

pub returns-then-slots-le-CAPACITY_LIMIT : goal.returns-then-slots-le-CAPACITY_LIMIT
unfolding capacity_fit
returns-then-slots-le-CAPACITY_LIMIT c =
    rw (length-trades, sym c.slots-slots.ensures, le-leb _ _ c.if-slots-le-CAPACITY_LIMIT.true)

pub returns-else-slots-le-CAPACITY_LIMIT : goal.returns-else-slots-le-CAPACITY_LIMIT
unfolding capacity_fit
returns-else-slots-le-CAPACITY_LIMIT c =
    rw (length-trades, sym c.slots-slots.ensures, lt-leb _ _ c.if-slots-le-CAPACITY_LIMIT.false)
