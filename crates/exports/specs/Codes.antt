-- Where a firm stands as codes: no enum crosses to C, so each case is a number, counted from 0.
-- Assumes nothing.
use Rattle.std.specs.Prelude.{ℕ, Bool, cond, ◌||◌, [], ◌∷◌, ◌==◌, nat_le}
use Rattle.rules.specs.Folds.{every}
use Rattle.rules.specs.Days.{day_number}
use Rattle.rules.specs.declared.book.Standing.{Standing}
use Rattle.rules.specs.Book.{Day}
use Rattle.std.specs.Prelude.{None, Some}
use Rattle.rules.specs.declared.book.Phase.{Phase}
use Rattle.rules.specs.declared.book.Phase.TheVariants.{Closed, Trading, Paid}
use Rattle.rules.specs.declared.book.Status.{Status}
use Rattle.rules.specs.declared.book.Status.TheVariants.{Normal, Suspended, Terminated}
use Rattle.rules.specs.declared.book.FailedRun.{FailedRun}
use Rattle.rules.specs.declared.book.FailedRun.TheVariants.{NotFailed, FailedOnce, FailedTwice}
use Rattle.rules.specs.declared.book.ShortRun.{ShortRun}
use Rattle.rules.specs.declared.book.ShortRun.TheVariants.{NotShort, ShortOnce, ShortTwice, ShortThrice}
use Rattle.exports.specs.declared.codes.Codes.{Codes}

-- ---- the codes that are well-formed

-- there is a day, or its number is 0
abbrev pub is_dated : (dated day : ℕ) → Bool
is_dated dated day = every (nat_le dated 1 ∷ (dated == 1 || day == 0) ∷ [])

-- "a phase (Closed, Trading, Paid); a status (normal, suspended, terminated)", "a run of failed payments (0 to 2) and of short closes (0 to
-- 3)"; "the day, none at first": 1 where there is one, and its number only then
unfoldable pub is_well_formed : Codes → Bool
is_well_formed codes =
    every
    (nat_le codes.phase 2
    ∷ nat_le codes.status 2
    ∷ nat_le codes.failed 2
    ∷ nat_le codes.short 3
    ∷ nat_le codes.dated 1
    ∷ (codes.dated == 1 || codes.day == 0)
    ∷ [])

-- ---- where a firm stands, from its codes

unfoldable pub day_at : (dated day : ℕ) → Day
day_at dated day = cond (dated == 1) (Some day) None

unfoldable pub phase_at : ℕ → Phase
phase_at code = cond (code == 0) Closed (cond (code == 1) Trading Paid)

unfoldable pub status_at : ℕ → Status
status_at code = cond (code == 0) Normal (cond (code == 1) Suspended Terminated)

unfoldable pub failed_at : ℕ → FailedRun
failed_at code = cond (code == 0) NotFailed (cond (code == 1) FailedOnce FailedTwice)

unfoldable pub short_at : ℕ → ShortRun
short_at code = cond (code == 0) NotShort (cond (code == 1) ShortOnce (cond (code == 2) ShortTwice ShortThrice))

abbrev pub standing_at : Codes → Standing
standing_at codes = record {
  day = day_at codes.dated codes.day;
  phase = phase_at codes.phase;
  status = status_at codes.status;
  failed = failed_at codes.failed;
  short = short_at codes.short;
}

-- ---- the codes of where a firm stands; where there is no day its number is 0

abbrev pub dated_number : Day → ℕ
dated_number None = 0
dated_number (Some day) = 1

abbrev pub phase_number : Phase → ℕ
phase_number Closed = 0
phase_number Trading = 1
phase_number Paid = 2

abbrev pub status_number : Status → ℕ
status_number Normal = 0
status_number Suspended = 1
status_number Terminated = 2

abbrev pub failed_number : FailedRun → ℕ
failed_number NotFailed = 0
failed_number FailedOnce = 1
failed_number FailedTwice = 2

abbrev pub short_number : ShortRun → ℕ
short_number NotShort = 0
short_number ShortOnce = 1
short_number ShortTwice = 2
short_number ShortThrice = 3

abbrev pub codes_of : Standing → Codes
codes_of standing = record {
  dated = dated_number standing.day;
  day = day_number standing.day;
  phase = phase_number standing.phase;
  status = status_number standing.status;
  failed = failed_number standing.failed;
  short = short_number standing.short;
}
