use mathlib.Core.Path.{sym, ◌∙◌}
use Rattle.ledger.proofs.DayLaws.{found_followed, none_followed}
use Rattle.ledger.proofs.days.Calendar.is_followed.Goals as goal

pub returns-in-Some : goal.returns-in-Some
returns-in-Some c found told = c.has_next.ensures ∙ found_followed _ _ _ (sym c.in-Some.is ∙ told)

pub returns-in-None : goal.returns-in-None
returns-in-None c found told = none_followed _ _ (sym c.in-None.is ∙ told)
