use mathlib.Core.Path.{◌∙◌}
use Rattle.money.specs.Days.{at_or_after}
use Rattle.ledger.proofs.DayLaws.{found-day}
use Rattle.ledger.proofs.days.Calendar.at_or_after.Goals as goal

pub returns : goal.returns
returns c = c.ok.ensures.value ∙ found-day (λ calendar. at_or_after calendar c.args.due) _ _ _ c.self.view_is c.self.invariant c.at_or_after.ensures
