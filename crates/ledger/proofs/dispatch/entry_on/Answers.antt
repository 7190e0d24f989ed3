use mathlib.Core.Path.{refl}
use Rattle.money.proofs.Refusals.{hit}
use Rattle.ledger.proofs.StepLaws.{fit-step}
use Rattle.ledger.proofs.dispatch.entry_on.Goals as goal

pub returns-in_default : goal.returns-in_default
returns-in_default c =
    rw (fit-step _ _ _ c.requires.book.fits c.requires.book.few _, c.in_default.is, hit 2 _ refl, c.refused.ensures) (refl, refl)

pub returns : goal.returns
returns c = rw (c.in-Some.is, c.done_by.ensures) c.event_on-outcome.ensures
