use mathlib.Core.Path.{ap, ◌∙◌}
use Rattle.std.specs.Prelude.{ℕ}
use borrow.Author.Tests.{eq-eqb}
use Rattle.money.specs.Causes.{first_of}
use Rattle.money.specs.declared.days.Found.{Found}
use Rattle.money.specs.Dates.{leap, february, month_length, length_after, start_after, exists, in_years, day_of, day_answer}
use Rattle.money.proofs.DateAnswers.{last-day}
use Rattle.cases.proofs.dates.to_days.Goals as goal

abbrev its-day : Found → ℕ
its-day found = found.day

abbrev its-number : Found → ℕ
its-number found = found.number

pub expect-requires : goal.expect-requires
unfolding day_answer exists in_years day_of start_after length_after month_length february leap first_of
expect-requires c =
    eq-eqb c.day-first.result.day 0 (ap its-day c.day-first.ensures)

pub expect-requires-2 : goal.expect-requires-2
unfolding day_answer exists in_years day_of start_after length_after month_length february leap first_of
expect-requires-2 c =
    eq-eqb c.day-leap.result.day 59 (ap its-day c.day-leap.ensures)

pub expect-requires-3 : goal.expect-requires-3
expect-requires-3 c =
    eq-eqb c.day-last.result.day 36524 (ap its-day (c.day-last.ensures ∙ last-day))

pub expect-requires-4 : goal.expect-requires-4
unfolding day_answer exists in_years day_of start_after length_after month_length february leap first_of
expect-requires-4 c =
    eq-eqb c.day-none.result.number 19 (ap its-number c.day-none.ensures)
