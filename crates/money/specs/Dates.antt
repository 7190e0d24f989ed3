-- Dates of the Gregorian calendar, and the days that they are. (02, ask 1)
-- Assumes nothing.
use Rattle.std.specs.Prelude.{ℕ, zero, suc, ◌+◌, ◌-◌, ◌*◌, ◌/◌, ◌%◌, Bool, cond, not, ◌&&◌, ◌||◌, List, [], ◌∷◌, ltb, leb, eqb, get_or, Result, Ok, Err}
use Rattle.std.proofs.Math.Option.{Option}
use Rattle.money.specs.Limits.{first_year, last_year, last_day}
use Rattle.money.specs.Causes.{Cause, ◌⇒◌, Refusal, first_of, number_of, result_of, refusal_number}
pub use Rattle.money.specs.declared.days.Found.{Found}
pub use Rattle.money.specs.declared.dates.Date.{Date}
pub use Rattle.money.specs.declared.dates.Dated.{Dated}

abbrev pub date : (year month day : ℕ) → Date
date year month day = record { year = year; month = month; day = day }

-- ---- "the rule of month lengths and leap years"

abbrev pub divides : ℕ → ℕ → Bool
divides divisor n = eqb (n % divisor) 0

-- "of the Gregorian calendar": 4 divides a leap year and 100 does not, unless 400 does
unfoldable pub leap : ℕ → Bool
leap year = divides 4 year && (not (divides 100 year) || divides 400 year)

-- the days of February
unfoldable pub february : ℕ → ℕ
february year = cond (leap year) 29 28

-- the days of January to December, those of the second month given
abbrev pub month_lengths : (second : ℕ) → List ℕ
month_lengths second = 31 ∷ second ∷ 31 ∷ 30 ∷ 31 ∷ 30 ∷ 31 ∷ 31 ∷ 30 ∷ 31 ∷ 30 ∷ 31 ∷ []

-- the days of a month, from 1 for January to 12 for December; any other number is no month and has no days
unfoldable pub month_length : (year month : ℕ) → ℕ
month_length year month = get_or (0 ∷ month_lengths (february year)) month 0

-- ---- the months, counted from January 2000

-- the length of the month so many months later
unfoldable pub length_after : (months : ℕ) → ℕ
length_after months = month_length (first_year + months / 12) (months % 12 + 1)

-- its first day: the lengths of all months before it, added up
unfoldable pub start_after : (months : ℕ) → ℕ
start_after zero = 0
start_after (suc months) = start_after months + length_after months

-- "the starts of all 1,200 months", "shown for the whole list together": the entry is the month's start, the next month starts its length later,
-- and the last month ends with day 36,524
unfoldable pub keeps_rule : (months start : ℕ) → List ℕ → Bool
keeps_rule months start [] = eqb start (last_day + 1)
keeps_rule months start (entry ∷ entries) =
    eqb entry start && keeps_rule (suc months) (entry + length_after months) entries

-- ---- "dates to day numbers"

-- a date exists where its month has that day
unfoldable pub exists : Date → Bool
exists d = leb 1 d.day && leb d.day (month_length d.year d.month)

-- "for 2000 to 2099"
unfoldable pub in_years : Date → Bool
in_years d = leb first_year d.year && leb d.year last_year

-- a date that exists, in these years
abbrev pub has_day : Date → Bool
has_day d = exists d && in_years d

-- how many months after January 2000 the month of a date comes, from that year on
abbrev pub months_to : Date → ℕ
months_to d = 12 * (d.year - first_year) + (d.month - 1)

-- a date that has a day: the days before its month, and those before it in its month
unfoldable pub day_of : Date → ℕ
day_of d = start_after (months_to d) + (d.day - 1)

-- ---- "and back"

-- the date after: the next of its month, else the first of the next month, else that of the next year
unfoldable pub next_date : Date → Date
next_date d =
    cond (ltb d.day (month_length d.year d.month)) (date d.year d.month (d.day + 1))
    (cond (ltb d.month 12) (date d.year (d.month + 1) 1) (date (d.year + 1) 1 1))

-- "Day 0 becomes 1 January 2000", and each day after it the date after
unfoldable pub date_of : ℕ → Date
date_of zero = date first_year 1 1
date_of (suc day) = next_date (date_of day)

-- ---- the calls

-- "19, for a date that doesn't exist or lies outside those years"
abbrev pub date_causes : Date → List Cause
date_causes d = (not (has_day d) ⇒ 19) ∷ []

-- "or a day above 36,524"
abbrev pub day_causes : ℕ → List Cause
day_causes day = (ltb last_day day ⇒ 19) ∷ []

abbrev pub numbered : Option ℕ → ℕ → Found
numbered refusal day = record { number = number_of refusal; day = result_of refusal day }

abbrev pub dated : Option ℕ → Date → Dated
dated refusal d =
    record {
      number = number_of refusal;
      date = date (result_of refusal d.year) (result_of refusal d.month) (result_of refusal d.day);
    }

-- the number, and beside it the day
unfoldable pub day_answer : Date → Found
day_answer d = numbered (first_of (date_causes d)) (day_of d)

-- a date that was answered, or a refusal, as C has it
abbrev pub dated_of : Result Date Refusal → Dated
dated_of (Ok d) = record { number = 0; date = d }
dated_of (Err refusal) = record { number = refusal_number refusal; date = date 0 0 0 }

-- the number, and beside it the date
unfoldable pub date_answer : ℕ → Dated
date_answer day = dated (first_of (day_causes day)) (date_of day)
