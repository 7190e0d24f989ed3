use Rattle.std.specs.Prelude.{Some}
use Rattle.rules.specs.Days.{following, followed}
use Rattle.ledger.proofs.DayLaws.{not-missing}
use Rattle.ledger.proofs.days.Calendar.has_next.Goals as goal

pub returns : goal.returns
unfolding following followed
returns c = rw (c.is_some.ensures, c.next_day.ensures) (not-missing (following c.args.self.now (Some c.args.day)))
