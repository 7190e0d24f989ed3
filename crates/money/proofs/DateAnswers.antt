-- What the two conversions answer: each undoes the other, and 19 is for a date that is no day and for a day that has no date, and for nothing else.
-- Assumes nothing.
use mathlib.Core.Path.{◌≡◌, refl, sym, ap, ◌∙◌, subst}
use mathlib.Core.Bool.{Bool, true, false, not, ◌&&◌}
use mathlib.Core.Option.{none, some}
use Prim.Native.Nat.{ℕ, ◌≤◌, ◌<◌}
use native.Mathlib.Decide.{dec_le}
use native.Mathlib.Omega.{arith}
use borrow.Author.Tests.{leb-true, le-leb, le-ltb, lt-ltb}
use lib.Dec.{leb}
use Rattle.money.specs.Limits.{first_year, last_year, last_day}
use Rattle.money.specs.Causes.{first_of}
use Rattle.money.specs.Dates.{Date, Dated, Found, date, leap, february, month_length, length_after, start_after, exists, in_years, has_day, day_of, date_of, numbered, dated, day_answer, date_answer}
use Rattle.money.proofs.Refusals.{hit, skip, clear}
use Rattle.money.proofs.TwoTests.{both, both_of}
use Rattle.money.proofs.MonthLaws.{is-month}
use Rattle.money.proofs.DateLaws.{IsDateInYears, day-date-day, date-day-date, one-date, day-at-most-last, date-in-years}

-- ---- the test of a date, and what it says

in-range : (low high n : ℕ) → (leb low n && leb n high) ≡ true → (low ≤ n) × (n ≤ high)
in-range low high n t = let b = both (leb low n) _ t in (leb-true low n b.0, leb-true n high b.1)

range-in : (low high n : ℕ) → low ≤ n → n ≤ high → (leb low n && leb n high) ≡ true
range-in low high n h k = both_of (leb low n) (leb n high) (le-leb low n h) (le-leb n high k)

has-day-is-date : (d : Date) → has_day d ≡ true → IsDateInYears d
unfolding exists in_years
has-day-is-date d t =
    let tests = both (exists d) _ t in
    let days = in-range 1 (month_length d.year d.month) d.day tests.0 in
    let years = in-range first_year last_year d.year tests.1 in
    let month = is-month d.year d.month (omega (arith, days)) in
    record {
      is-date = record { year-from = years.0; month-from = month.0; month-to = month.1; day-from = days.0; day-to = days.1 };
      year-to = years.1;
    }

is-date-has-day : (d : Date) → IsDateInYears d → has_day d ≡ true
unfolding exists in_years
is-date-has-day d v =
    let e = v.is-date in
    both_of (exists d) (in_years d)
    (range-in 1 (month_length d.year d.month) d.day e.day-from e.day-to)
    (range-in first_year last_year d.year e.year-from v.year-to)

no-date-no-day : (d : Date) → (IsDateInYears d → ⊥) → has_day d ≡ false
no-date-no-day d n = go (has_day d) refl
  where
    go : (b : Bool) → has_day d ≡ b → b ≡ false
    go true e = absurd (n (has-day-is-date d e))
    go false e = refl

dec_is_date : (d : Date) → Dec (IsDateInYears d)
dec_is_date d = go (has_day d) refl
  where
    go : (b : Bool) → has_day d ≡ b → Dec (IsDateInYears d)
    go true e = yes (has-day-is-date d e)
    go false e = no (λ v. let z : ◌≡◌ {A = ℕ} 0 1 = cc (is-date-has-day d v) in absurd (omega arith))

-- ---- the answers

pub day-given : (d : Date) → IsDateInYears d → day_answer d ≡ numbered none (day_of d)
unfolding day_answer
day-given d v = rw (skip _ _ (ap not (is-date-has-day d v)) clear) refl

pub day-refused : (d : Date) → (IsDateInYears d → ⊥) → day_answer d ≡ numbered (some 19) 0
unfolding day_answer
day-refused d n = rw (hit _ _ (ap not (no-date-no-day d n))) refl

pub date-given : (day : ℕ) → day ≤ last_day → date_answer day ≡ dated none (date_of day)
unfolding date_answer
date-given day h = rw (skip _ _ (le-ltb _ _ h) clear) refl

pub date-refused : (day : ℕ) → last_day < day → date_answer day ≡ dated (some 19) (date 0 0 0)
unfolding date_answer
date-refused day h = rw (hit _ _ (lt-ltb _ _ h)) refl

-- ---- each undoes the other

pub date-back : (d : Date) → (day_answer d).number ≡ 0 → date_answer (day_answer d).day ≡ dated none d
date-back d e = side (dec_is_date d)
  where
    side : Dec (IsDateInYears d) → date_answer (day_answer d).day ≡ dated none d
    side (yes v) = rw (day-given d v) (date-given (day_of d) (day-at-most-last d v) ∙ ap (dated none) (date-day-date d v.is-date))
    side (no n) = absurd (omega (arith, ap (λ (r : Found). r.number) (day-refused d n)))

pub day-back : (day : ℕ) → (date_answer day).number ≡ 0 → day_answer (date_answer day).date ≡ numbered none day
day-back day e = side (dec_le day last_day)
  where
    side : Dec (day ≤ last_day) → day_answer (date_answer day).date ≡ numbered none day
    side (yes l) = rw (date-given day l) (day-given (date_of day) (date-in-years day l) ∙ ap (numbered none) (day-date-day day))
    side (no n) = absurd (omega (arith, ap (λ (r : Dated). r.number) (date-refused day (omega arith))))

-- ---- "each date matching one day and each day one date"

pub date-of-day : (day : ℕ) → day ≤ last_day → (has_day (date_of day) ≡ true) × (day_of (date_of day) ≡ day)
date-of-day day h = (is-date-has-day (date_of day) (date-in-years day h), day-date-day day)

pub day-of-date : (d : Date) → has_day d ≡ true → (day_of d ≤ last_day) × (date_of (day_of d) ≡ d)
day-of-date d t = let v = has-day-is-date d t in (day-at-most-last d v, date-day-date d v.is-date)

pub one-day-a-date : (day other : ℕ) → date_of day ≡ date_of other → day ≡ other
one-day-a-date day other same = sym (day-date-day day) ∙ ap day_of same ∙ day-date-day other

pub one-date-a-day : (d e : Date) → has_day d ≡ true → has_day e ≡ true → day_of d ≡ day_of e → d ≡ e
one-date-a-day d e t u same = one-date d e (has-day-is-date d t).is-date (has-day-is-date e u).is-date same

-- ---- 19 exactly where there is none

pub no-day-at-19 : (d : Date) → (day_answer d).number ≡ 19 → (day : ℕ) → day ≤ last_day → date_of day ≡ d → ⊥
no-day-at-19 d e day h same =
    let v : IsDateInYears d = subst IsDateInYears same (date-in-years day h) in
    omega (arith, ap (λ (r : Found). r.number) (day-given d v))

pub at-19-where-no-day : (d : Date) → ((day : ℕ) → day ≤ last_day → date_of day ≡ d → ⊥) → (day_answer d).number ≡ 19
at-19-where-no-day d n = ap (λ (r : Found). r.number) (day-refused d (λ v. n (day_of d) (day-at-most-last d v) (date-day-date d v.is-date)))

pub no-date-at-19 : (day : ℕ) → (date_answer day).number ≡ 19 → (d : Date) → has_day d ≡ true → day_of d ≡ day → ⊥
no-date-at-19 day e d t same =
    let h : day ≤ last_day = omega (arith, day-at-most-last d (has-day-is-date d t)) in
    omega (arith, ap (λ (r : Dated). r.number) (date-given day h))

pub at-19-where-no-date : (day : ℕ) → ((d : Date) → has_day d ≡ true → day_of d ≡ day → ⊥) → (date_answer day).number ≡ 19
at-19-where-no-date day n = side (dec_le day last_day)
  where
    side : Dec (day ≤ last_day) → (date_answer day).number ≡ 19
    side (yes l) = absurd (n (date_of day) (date-of-day day l).0 (day-date-day day))
    side (no l) = ap (λ (r : Dated). r.number) (date-refused day (omega arith))

-- ---- the first day and the last

pub first-day : day_answer (date 2000 1 1) ≡ numbered none 0
unfolding day_answer exists in_years day_of start_after month_length february leap first_of
first-day = refl

pub first-date : date_answer 0 ≡ dated none (date 2000 1 1)
unfolding date_answer date_of first_of
first-date = refl

pub last-day : day_answer (date 2099 12 31) ≡ numbered none last_day
unfolding day_answer exists in_years day_of start_after length_after month_length february leap first_of
last-day = refl

pub last-date : date_answer last_day ≡ dated none (date 2099 12 31)
last-date = rw last-day at (date-back (date 2099 12 31) (rw last-day refl))
