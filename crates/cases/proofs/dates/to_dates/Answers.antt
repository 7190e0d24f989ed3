use mathlib.Core.Path.{ap, ◌∙◌}
use borrow.Author.Tests.{eq-eqb}
use Rattle.money.specs.Causes.{first_of}
use Rattle.money.specs.declared.dates.Dated.{Dated}
use Rattle.money.specs.Dates.{leap, february, month_length, next_date, date_of, date_answer}
use Rattle.money.proofs.DateAnswers.{last-date}
use Rattle.cases.proofs.dates.to_dates.Goals as goal

pub expect-requires : goal.expect-requires
unfolding date_answer date_of next_date month_length february leap first_of
expect-requires c =
    eq-eqb c.told-leap.result.date.day 29 (ap (λ (d : Dated). d.date.day) c.told-leap.ensures)

pub expect-requires-2 : goal.expect-requires-2
expect-requires-2 c =
    eq-eqb c.told-last.result.date.year 2099 (ap (λ (d : Dated). d.date.year) (c.told-last.ensures ∙ last-date))

pub expect-requires-3 : goal.expect-requires-3
unfolding date_answer first_of
expect-requires-3 c =
    eq-eqb c.told-none.result.number 19 (ap (λ (d : Dated). d.number) c.told-none.ensures)
