use Rattle.rules.specs.Days.{following, payment_day}
use Rattle.ledger.proofs.DayLaws.{day-or-0}
use Rattle.ledger.proofs.days.Calendar.payment_day.Goals as goal

pub returns : goal.returns
unfolding payment_day
returns c = rw (c.unwrap_or.ensures, c.next_day.ensures) (day-or-0 (following c.args.self.now c.args.day))
