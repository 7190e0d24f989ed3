-- Scalars that go out and come back are as they were: first a book's, then what is well-formed; between them, what any code reads as.
-- For the calls on a book in lent numbers. Assumes nothing.
use Rattle.std.proofs.lemmas.Option.{none-some, same_Some}
use Rattle.std.proofs.Common.{◌≡◌, ℕ, zero, suc, ◌≤◌, Bool, true, false, ◌||◌, eqb, sym, refl, arith, eqb-true, leb-true}
use Rattle.rules.specs.Book.{Day}
use Rattle.std.specs.Prelude.{None, Some, Result, Ok, Err, is_err, if◌then◌else◌, ◌==◌, nat_le, unwrap_or}
use mathlib.Core.Bool.{false≢true}
use Rattle.money.specs.declared.refusal.Refusal.{Refusal}
use Rattle.money.specs.Causes.{number_of, refusal_of}
use Rattle.rules.specs.declared.book.Phase.{Phase}
use Rattle.rules.specs.declared.book.Phase.TheVariants.{Closed, Trading, Paid}
use Rattle.rules.specs.declared.book.Status.{Status}
use Rattle.rules.specs.declared.book.Status.TheVariants.{Normal, Suspended, Terminated}
use Rattle.rules.specs.declared.book.FailedRun.{FailedRun}
use Rattle.rules.specs.declared.book.FailedRun.TheVariants.{NotFailed, FailedOnce, FailedTwice}
use Rattle.rules.specs.declared.book.ShortRun.{ShortRun}
use Rattle.rules.specs.declared.book.ShortRun.TheVariants.{NotShort, ShortOnce, ShortTwice, ShortThrice}
use Rattle.scalars.specs.declared.state.Scalars.{Scalars}
use Rattle.rules.specs.Days.{day_number}
use Rattle.rules.specs.Folds.{every}
use Rattle.std.proofs.lemmas.Bool.Decides.{nat_tests}
use Rattle.rules.proofs.FoldLaws.{every_holds}
use Rattle.exports.specs.declared.codes.Codes.{Codes}
use Rattle.exports.specs.declared.raw.RawScalars.{RawScalars}
use Rattle.exports.specs.Codes.{is_dated, is_well_formed, day_at, phase_at, status_at, failed_at, short_at, standing_at, dated_number, phase_number, status_number, failed_number, short_number, codes_of}
use Rattle.exports.specs.Raw.{scalars_from, raw_of}

-- ---- a book's scalars

day-back : (day : Day) → day_at (dated_number day) (day_number day) ≡ day
unfolding day_at
day-back None = refl
day-back (Some day) = refl

phase-back : (phase : Phase) → phase_at (phase_number phase) ≡ phase
unfolding phase_at
phase-back Closed = refl
phase-back Trading = refl
phase-back Paid = refl

status-back : (status : Status) → status_at (status_number status) ≡ status
unfolding status_at
status-back Normal = refl
status-back Suspended = refl
status-back Terminated = refl

failed-back : (failed : FailedRun) → failed_at (failed_number failed) ≡ failed
unfolding failed_at
failed-back NotFailed = refl
failed-back FailedOnce = refl
failed-back FailedTwice = refl

short_back : (short : ShortRun) → short_at (short_number short) ≡ short
unfolding short_at
short_back NotShort = refl
short_back ShortOnce = refl
short_back ShortTwice = refl
short_back ShortThrice = refl

pub scalars-back : (scalars : Scalars) → scalars_from (raw_of scalars) ≡ scalars
unfolding scalars_from raw_of
scalars-back scalars =
    let standing = scalars.standing in
    rw (day-back standing.day, phase-back standing.phase, status-back standing.status, failed-back standing.failed, short_back standing.short) refl

-- what is there if a test holds, and else none: the test by what came out
pub some_if : {A : Type 0} (test : Bool) (x y : A) → Some x ≡ (if test then Some y else None) → (test ≡ true) × (x ≡ y)
some_if true x y e = (refl, same_Some x y e)
some_if false x y e = absurd (none-some x (sym e))

pub none_if : {A : Type 0} (test : Bool) (y : A) → None ≡ (if test then Some y else None) → test ≡ false
none_if true y e = absurd (none-some y e)
none_if false y e = refl

-- a number that is not 0 is a refusal's
pub refused-by-number : {A : Type 0} (ended : Result A Refusal) → (number_of (refusal_of ended) == 0) ≡ false → is_err ended ≡ true
refused-by-number (Ok x) e = absurd (false≢true (sym e))
refused-by-number (Err refusal) e = refl

-- ---- what any code reads as: one past the last case as the last, and a day that is not dated as none

pub day_or_none : (dated day : ℕ) → unwrap_or (if is_dated dated day then Some (day_at dated day) else None) None ≡ day_at dated day
unfolding day_at every
day_or_none dated day = grind (arith, nat_tests)

pub phase_or_paid : (code : ℕ) → unwrap_or (if nat_le code 2 then Some (phase_at code) else None) Paid ≡ phase_at code
unfolding phase_at
phase_or_paid code = grind (arith, nat_tests)

pub status_or_terminated : (code : ℕ) → unwrap_or (if nat_le code 2 then Some (status_at code) else None) Terminated ≡ status_at code
unfolding status_at
status_or_terminated code = grind (arith, nat_tests)

pub failed_or_twice : (code : ℕ) → unwrap_or (if nat_le code 2 then Some (failed_at code) else None) FailedTwice ≡ failed_at code
unfolding failed_at
failed_or_twice code = grind (arith, nat_tests)

pub short_or_thrice : (code : ℕ) → unwrap_or (if nat_le code 3 then Some (short_at code) else None) ShortThrice ≡ short_at code
unfolding short_at
short_or_thrice code = grind (arith, nat_tests)

pub ruleset or_last = (day_or_none, phase_or_paid, status_or_terminated, failed_or_twice, short_or_thrice)

-- ---- what is well-formed: shows what the promises mean, and no proof cites it

dated-same : (dated day : ℕ) → dated ≤ 1 → dated_number (day_at dated day) ≡ dated
unfolding day_at
dated-same zero day h = refl
dated-same (suc zero) day h = refl
dated-same (suc (suc n)) day h = absurd (omega (arith, h))

day-same : (dated day : ℕ) → dated ≤ 1 → (eqb dated 1 || eqb day 0) ≡ true → day_number (day_at dated day) ≡ day
unfolding day_at
day-same zero day h e = sym (eqb-true day 0 e)
day-same (suc zero) day h e = refl
day-same (suc (suc n)) day h e = absurd (omega (arith, h))

phase-same : (code : ℕ) → code ≤ 2 → phase_number (phase_at code) ≡ code
unfolding phase_at
phase-same zero h = refl
phase-same (suc zero) h = refl
phase-same (suc (suc zero)) h = refl
phase-same (suc (suc (suc n))) h = absurd (omega (arith, h))

status-same : (code : ℕ) → code ≤ 2 → status_number (status_at code) ≡ code
unfolding status_at
status-same zero h = refl
status-same (suc zero) h = refl
status-same (suc (suc zero)) h = refl
status-same (suc (suc (suc n))) h = absurd (omega (arith, h))

failed-same : (code : ℕ) → code ≤ 2 → failed_number (failed_at code) ≡ code
unfolding failed_at
failed-same zero h = refl
failed-same (suc zero) h = refl
failed-same (suc (suc zero)) h = refl
failed-same (suc (suc (suc n))) h = absurd (omega (arith, h))

short-same : (code : ℕ) → code ≤ 3 → short_number (short_at code) ≡ code
unfolding short_at
short-same zero h = refl
short-same (suc zero) h = refl
short-same (suc (suc zero)) h = refl
short-same (suc (suc (suc zero))) h = refl
short-same (suc (suc (suc (suc n)))) h = absurd (omega (arith, h))

pub codes_same : (codes : Codes) → is_well_formed codes ≡ true → codes_of (standing_at codes) ≡ codes
unfolding is_well_formed
codes_same codes e =
    let h = every_holds _ e in
    let dated = leb-true codes.dated 1 h.1.1.1.1.0 in
    rw (
      dated-same codes.dated codes.day dated,
      day-same codes.dated codes.day dated h.1.1.1.1.1.0,
      phase-same codes.phase (leb-true codes.phase 2 h.0),
      status-same codes.status (leb-true codes.status 2 h.1.0),
      failed-same codes.failed (leb-true codes.failed 2 h.1.1.0),
      short-same codes.short (leb-true codes.short 3 h.1.1.1.0),
    ) refl

pub raw_same : (raw : RawScalars) → is_well_formed raw.codes ≡ true → raw_of (scalars_from raw) ≡ raw
unfolding raw_of scalars_from
raw_same raw e = rw (codes_same raw.codes e) refl
