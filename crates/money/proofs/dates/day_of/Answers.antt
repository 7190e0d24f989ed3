-- Past all tests the date is one of these years.
use Rattle.std.proofs.Common.{◌+◌, ◌-◌, ℕ, ◌≤◌, sym, ap, ◌∙◌, arith}
use Rattle.std.proofs.Math.Option.{none}
use Rattle.money.specs.Limits.{first_year, last_year}
use Rattle.money.specs.Dates.{Date, month_length, day_of, numbered}
use Rattle.money.proofs.MonthLaws.{is-month}
use Rattle.money.proofs.DateLaws.{IsDateInYears, day-at-most-last}
use Rattle.money.proofs.DateAnswers.{day-given, day-refused}
use Rattle.money.proofs.dates.day_of.Goals as goal

in-years : (d : Date) → first_year ≤ d.year → d.year ≤ last_year → 1 ≤ d.day → d.day ≤ month_length d.year d.month → IsDateInYears d
in-years d from to some within =
    let month = is-month d.year d.month (omega arith) in
    record {
      is-date = record { year-from = from; month-from = month.0; month-to = month.1; day-from = some; day-to = within };
      year-to = to;
    }

pub returns-then-year-lt-FIRST_YEAR : goal.returns-then-year-lt-FIRST_YEAR
returns-then-year-lt-FIRST_YEAR c = sym (day-refused _ (λ v. omega (arith, v.is-date.year-from)))

pub returns-then-year-gt-LAST_YEAR : goal.returns-then-year-gt-LAST_YEAR
returns-then-year-gt-LAST_YEAR c = sym (day-refused _ (λ v. omega (arith, v.year-to)))

pub returns-then-day-lt1 : goal.returns-then-day-lt1
returns-then-day-lt1 c = sym (day-refused _ (λ v. omega (arith, v.is-date.day-from)))

pub returns-then-day-length : goal.returns-then-day-length
returns-then-day-length c = sym (day-refused _ (λ v. omega (arith, v.is-date.day-to, c.month_length-length.ensures)))

pub overflow_sub-months-2 : goal.overflow_sub-months-2
overflow_sub-months-2 c =
    let v = in-years c.args.date (omega arith) (omega arith) (omega arith) (omega (arith, c.month_length-length.ensures)) in
    v.is-date.month-from

pub overflow_add-months : goal.overflow_add-months
overflow_add-months c =
    let v = in-years c.args.date (omega arith) (omega arith) (omega arith) (omega (arith, c.month_length-length.ensures)) in
    record { fits = omega (arith, v.is-date.month-to) }

pub start_after-start-requires : goal.start_after-start-requires
start_after-start-requires c =
    let v = in-years c.args.date (omega arith) (omega arith) (omega arith) (omega (arith, c.month_length-length.ensures)) in
    omega (arith, v.is-date.month-to)

pub overflow_add-result : goal.overflow_add-result
unfolding day_of
overflow_add-result c =
    let v = in-years c.args.date (omega arith) (omega arith) (omega arith) (omega (arith, c.month_length-length.ensures)) in
    record { fits = omega (arith, c.start_after-start.ensures, day-at-most-last c.args.date v) }

pub returns : goal.returns
unfolding day_of
returns c =
    let v = in-years c.args.date (omega arith) (omega arith) (omega arith) (omega (arith, c.month_length-length.ensures)) in
    ap (λ (start : ℕ). numbered none (start + (c.args.date.day - 1))) c.start_after-start.ensures ∙ sym (day-given c.args.date v)
