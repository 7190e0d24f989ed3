-- A day has one date and a date one day: both ways round give back what they began with.
-- Assumes nothing.
use mathlib.Core.Path.{◌≡◌, refl, ap, ◌∙◌}
use mathlib.Core.Bool.{Bool, true, false, cond}
use Prim.Native.Nat.{ℕ, zero, suc, ◌+◌, ◌/◌, ◌%◌, ◌≤◌, ◌<◌}
use native.Mathlib.Decide.{dec_le}
use native.Mathlib.Omega.{arith}
use borrow.Author.Tests.{ltb-true, ltb-false}
use lib.Dec.{ltb}
use Rattle.money.specs.Limits.{first_year, last_year, month_count, last_day}
use Rattle.money.specs.Dates.{Date, date, month_length, length_after, start_after, months_to, day_of, next_date, date_of}
use Rattle.money.proofs.MonthLaws.{has-days, rises, last_end}

-- a date of the calendar, from 2000 on without an end
pub record IsDate (d : Date) : Type 0 where
  pub year-from : first_year ≤ d.year
  pub month-from : 1 ≤ d.month
  pub month-to : d.month ≤ 12
  pub day-from : 1 ≤ d.day
  pub day-to : d.day ≤ month_length d.year d.month

-- and of 2000 to 2099
pub record IsDateInYears (d : Date) : Type 0 where
  pub is-date : IsDate d
  pub year-to : d.year ≤ last_year

-- ---- a date lies in its month

module _ (d : Date) (h : IsDate d) where
  pub its-year : first_year + months_to d / 12 ≡ d.year
  its-year = omega arith

  pub its-month : months_to d % 12 + 1 ≡ d.month
  its-month = omega arith

  its-end : start_after (suc (months_to d)) ≡ start_after (months_to d) + month_length d.year d.month
  unfolding start_after length_after
  its-end = rw (its-year, its-month)

  pub from_start : start_after (months_to d) ≤ day_of d
  unfolding day_of
  from_start = omega arith

  pub to_end : day_of d < start_after (suc (months_to d))
  unfolding day_of
  to_end = omega (arith, its-end)

-- ---- the date after is one, and its day is the next

record After (d e : Date) : Type 0 where
  is-date : IsDate e
  next : day_of e ≡ suc (day_of d)

after : (d : Date) → IsDate d → After d (next_date d)
unfolding next_date day_of
after d h = go (ltb d.day (month_length d.year d.month)) refl (ltb d.month 12) refl
  where
    go : (b : Bool) → ltb d.day (month_length d.year d.month) ≡ b → (l : Bool) → ltb d.month 12 ≡ l
        → After d (cond b (date d.year d.month (d.day + 1)) (cond l (date d.year (d.month + 1) 1) (date (d.year + 1) 1 1)))
    go true e l f =
        let more : d.day < month_length d.year d.month = ltb-true _ _ e in
        record {
          is-date = record { year-from = h.year-from; month-from = h.month-from; month-to = h.month-to; day-from = omega arith; day-to = omega arith };
          next = omega arith;
        }
    go false e true f =
        let full : month_length d.year d.month ≤ d.day = ltb-false _ _ e in
        let less : d.month < 12 = ltb-true _ _ f in
        let on : months_to (date d.year (d.month + 1) 1) ≡ suc (months_to d) = omega arith in
        record {
          is-date = record { year-from = h.year-from; month-from = omega arith; month-to = omega arith; day-from = omega arith; day-to = has-days d.year (d.month + 1) (omega arith) (omega arith) };
          next = omega (arith, ap start_after on, its-end d h);
        }
    go false e false f =
        let full : month_length d.year d.month ≤ d.day = ltb-false _ _ e in
        let last : 12 ≤ d.month = ltb-false _ _ f in
        let on : months_to (date (d.year + 1) 1 1) ≡ suc (months_to d) = omega arith in
        record {
          is-date = record { year-from = omega arith; month-from = omega arith; month-to = omega arith; day-from = omega arith; day-to = has-days (d.year + 1) 1 (omega arith) (omega arith) };
          next = omega (arith, ap start_after on, its-end d h);
        }

-- ---- day to date to day

pub date-is-one : (day : ℕ) → IsDate (date_of day)
unfolding date_of
date-is-one zero = record { year-from = omega arith; month-from = omega arith; month-to = omega arith; day-from = omega arith; day-to = has-days first_year 1 (omega arith) (omega arith) }
date-is-one (suc day) = (after (date_of day) (date-is-one day)).is-date

pub day-date-day : (day : ℕ) → day_of (date_of day) ≡ day
unfolding date_of day_of start_after
day-date-day zero = refl
day-date-day (suc day) = (after (date_of day) (date-is-one day)).next ∙ ap suc (day-date-day day)

-- ---- date to day to date

-- of two dates the one of the earlier month has the earlier day
earlier : (d e : Date) → IsDate d → IsDate e → months_to d < months_to e → day_of d < day_of e
earlier d e h k l = omega (arith, to_end d h, rises (suc (months_to d)) (months_to e) l, from_start e k)

pub same-date : {y₀ y m₀ m n₀ n : ℕ} → y₀ ≡ y → m₀ ≡ m → n₀ ≡ n → date y₀ m₀ n₀ ≡ date y m n
same-date a b c = cc

pub one-date : (d e : Date) → IsDate d → IsDate e → day_of d ≡ day_of e → d ≡ e
unfolding day_of
one-date d e h k same = same-date years months days
  where
    no-earlier : months_to d < months_to e → ⊥
    no-earlier l = omega (arith, earlier d e h k l)

    no-later : months_to e < months_to d → ⊥
    no-later l = omega (arith, earlier e d k h l)

    level : months_to d ≡ months_to e
    level = omega (arith, no-earlier, no-later)

    years : d.year ≡ e.year
    years = omega (arith, level)

    months : d.month ≡ e.month
    months = omega (arith, level)

    days : d.day ≡ e.day
    days = omega (arith, ap start_after level)

pub date-day-date : (d : Date) → IsDate d → date_of (day_of d) ≡ d
date-day-date d h = one-date (date_of (day_of d)) d (date-is-one (day_of d)) h (day-date-day (day_of d))

-- ---- the years 2000 to 2099 are the days 0 to 36,524

pub day-at-most-last : (d : Date) → IsDateInYears d → day_of d ≤ last_day
day-at-most-last d v = omega (arith, to_end d v.is-date, rises (suc (months_to d)) month_count (omega arith), last_end)

pub date-in-years : (day : ℕ) → day ≤ last_day → IsDateInYears (date_of day)
date-in-years day h = record { is-date = date-is-one day; year-to = side (dec_le (date_of day).year last_year) }
  where
    side : Dec ((date_of day).year ≤ last_year) → (date_of day).year ≤ last_year
    side (yes l) = l
    side (no l) =
        let past : month_count ≤ months_to (date_of day) = omega arith in
        absurd (omega (arith, from_start (date_of day) (date-is-one day), rises month_count (months_to (date_of day)) past, last_end, day-date-day day))
