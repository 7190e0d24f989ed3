use Rattle.money.specs.Days.{earliest, next_after}
use Rattle.rules.specs.Days.{following}
use Rattle.ledger.proofs.DayLaws.{found-day}
use Rattle.ledger.proofs.days.Calendar.next_day.Goals as goal
use Rattle.ledger.proofs.days.Calendar.next_day.Goals.{in-None, in-Some}

pub returns : goal.returns
unfolding following
returns c =
    elim c.match-day.branch [
      | in-None w ↦ rw (c.ok.ensures.value, w.found-is, w.in-None.is) (found-day earliest _ _ _ c.self.view_is c.self.invariant w.earliest_day-found.ensures)
      | in-Some w ↦ rw (c.ok.ensures.value, w.found-is, w.in-Some.is) (found-day (λ calendar. next_after calendar w.in-Some.today) _ _ _ c.self.view_is c.self.invariant w.next_after-found.ensures)
    ]
