-- A day's month is told by one division: it is the month tried or the one before it.
-- Assumes nothing.
use mathlib.Core.Path.{◌≡◌, refl, sym, ap, ◌∙◌, subst}
use mathlib.Core.Bool.{Bool, true, ◌&&◌}
use Prim.Native.Nat.{ℕ, zero, suc, ◌+◌, ◌-◌, ◌*◌, ◌/◌, ◌%◌, ◌≤◌, ◌<◌}
use native.Mathlib.Nat.{add-zero, zero-add, add-suc, suc-add, le_of_suc-le-suc}
use native.Mathlib.Omega.{arith}
use borrow.Author.Tests.{leb-true, ltb-true}
use lib.Dec.{ltb, leb}
use Rattle.money.specs.Limits.{first_year, month_count, last_day}
use Rattle.money.specs.Dates.{date, leap, february, month_length, length_after, start_after, months_to, day_of, date_of}
use Rattle.money.proofs.TwoTests.{both}
use Rattle.money.proofs.MonthLaws.{next_start, rises, last_end}
use Rattle.money.proofs.DateLaws.{date-is-one, date-in-years, day-date-day, from_start, to_end, its-year, its-month, same-date}

-- ---- at 12 months in 365 days no month starts more than 10 twelfths of a day early, and none a month late

abbrev not_early : (months start : ℕ) → Bool
not_early months start = leb (365 * months) (12 * start + 10)

abbrev not_late : (months start : ℕ) → Bool
not_late months start = ltb (12 * start + 57) (365 * (months + 1))

abbrev near : (months start : ℕ) → Bool
near months start = not_early months start && not_late months start

-- the test over the months in a row, and at each
abbrev all_near : (count months start : ℕ) → Bool
all_near zero months start = near months start
all_near (suc count) months start = near months start && all_near count (suc months) (start + length_after months)

carried : (count months : ℕ) → all_near count months (start_after months) ≡ true → (k : ℕ) → k ≤ count → near (months + k) (start_after (months + k)) ≡ true
unfolding start_after
carried zero months t k h = let z : months ≡ months + k = omega arith in rw z at t
carried (suc count) months t zero h = rw add-zero (both (near months (start_after months)) _ t).0
carried (suc count) months t (suc k) h =
    subst (λ (m : ℕ). near m (start_after m) ≡ true) (suc-add months k ∙ sym (add-suc months k))
    (carried count (suc months) (both (near months (start_after months)) _ t).1 k (le_of_suc-le-suc h))

each-near : (k : ℕ) → k ≤ month_count → near k (start_after k) ≡ true
unfolding start_after length_after month_length february leap
each-near k h = rw zero-add at (carried month_count 0 refl k h)

not-early : (k : ℕ) → k ≤ month_count → 365 * k ≤ 12 * start_after k + 10
not-early k h = leb-true _ _ (both (not_early k (start_after k)) _ (each-near k h)).0

not_late-each : (k : ℕ) → k ≤ month_count → 12 * start_after k + 57 < 365 * (k + 1)
not_late-each k h = ltb-true _ _ (both (not_early k (start_after k)) _ (each-near k h)).1

-- ---- the month tried is the day's own or the one after it

-- what a month that is tried for a day has to keep to: any number between the two will do
pub record Tried (day months : ℕ) : Type 0 where
  pub late-enough : 12 * day + 10 < 365 * (months + 1)
  pub early-enough : 365 * months ≤ 12 * day + 69

module _ (day : ℕ) (h : day ≤ last_day) where
  begun : start_after (months_to (date_of day)) ≤ day
  begun = omega (arith, from_start (date_of day) (date-is-one day), day-date-day day)

  ends : day < start_after (suc (months_to (date_of day)))
  ends = omega (arith, to_end (date_of day) (date-is-one day), day-date-day day)

  in_table : months_to (date_of day) < month_count
  in_table = omega (arith, (date-in-years day h).is-date.month-to, (date-in-years day h).year-to)

  not-before : {months : ℕ} → Tried day months → months_to (date_of day) ≤ months
  not-before t = omega (arith, begun, not-early (months_to (date_of day)) (omega (arith, in_table)))

  not-past : {months : ℕ} → Tried day months → months ≤ suc (months_to (date_of day))
  not-past t = omega (arith, ends, not_late-each (suc (months_to (date_of day))) in_table)

  pub its_own : {months start : ℕ} → start ≡ start_after months → Tried day months → start ≤ day → months ≡ months_to (date_of day)
  its_own {months} {start} f t l = omega (arith, not-before t, not-past t, not-next)
    where
      not-next : months ≡ suc (months_to (date_of day)) → ⊥
      not-next e = omega (arith, ends, ap start_after e)

  pub the-next : {months start : ℕ} → start ≡ start_after months → Tried day months → day < start → months ≡ suc (months_to (date_of day))
  the-next {months} {start} f t l = omega (arith, not-before t, not-past t, not_own)
    where
      not_own : months ≡ months_to (date_of day) → ⊥
      not_own e = omega (arith, begun, ap start_after e)

  -- the day's own month, where it is the one before the month tried: it ends where that one starts
  pub record OneBack (start length : ℕ) : Type 0 where
    pub from : start_after (months_to (date_of day)) ≤ day
    pub spans : start ≡ start_after (months_to (date_of day)) + length
    pub to : start ≤ last_day + 1

  pub one-back : {months tried start length : ℕ} → start ≡ start_after tried → Tried day tried → day < start → months ≡ tried - 1 → length ≡ length_after months → OneBack start length
  one-back {months} {tried} {start} {length} f t l b e =
      record {
        from = begun;
        spans = f ∙ ap start_after next ∙ next_start (months_to (date_of day)) ∙ ap (λ (k : ℕ). start_after (months_to (date_of day)) + k) (sym its-length);
        to = omega (arith, rises tried month_count (omega (arith, next, in_table)), last_end);
      }
    where
      next : tried ≡ suc (months_to (date_of day))
      next = the-next f t l

      own : months ≡ months_to (date_of day)
      own = omega (arith, next)

      its-length : length ≡ length_after (months_to (date_of day))
      its-length = e ∙ ap length_after own

  -- the date is put together from its month and the days into it
  pub put-together : {months : ℕ} (into : ℕ) → months ≡ months_to (date_of day) → start_after (months_to (date_of day)) + into ≡ day → date (first_year + months / 12) (months % 12 + 1) (into + 1) ≡ date_of day
  unfolding day_of
  put-together {months} into e f =
      let x = date-is-one day in
      rw e (same-date (its-year (date_of day) x) (its-month (date_of day) x) (omega (arith, day-date-day day)))
