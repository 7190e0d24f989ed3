-- Lent numbers that hold a fit book, and those that do not: what a call on them gives.
-- For the calls on lent numbers, and for those above them. Assumes nothing.
use Rattle.std.specs.Prelude.{◌≡◌, ℕ, ◌%◌, ◌<◌, ◌≤◌, true, false, cond, not, ◌&&◌, ◌||◌, ltb, List, length}
use mathlib.Core.Path.{refl, sym}
use borrow.Author.Tests.{not-true, not-false, eqb-true, eq-eqb, ltb-false, le-ltb}
use Rattle.money.specs.Days.{Calendar}
use Rattle.rules.specs.Book.{answer}
use Rattle.rules.specs.Fit.{fit}
use Rattle.rules.specs.Step.{Outcome, outcome, unfit, step}
use Rattle.rules.specs.Cover.{cover_refused, cover_of}
use Rattle.rules.specs.Listing.{RunOutcome, run_outcome}
use Rattle.money.proofs.TwoTests.{both}
use Rattle.rules.proofs.FoldLaws.{by-test, neither, every_holds, every_of}
use Rattle.ledger.specs.Types.{Applied, Ran, Trade, Entry}
use Rattle.ledger.specs.Flat.{width, applied_of}
use Rattle.ledger.specs.Lent.{Lent, book_in, table_in, is_whole, fit_in, step_in, cover_in, run_in}
use Rattle.ledger.proofs.StepLaws.{too-many-words, unfit-step}
use Rattle.ledger.proofs.CoverLaws.{unfit-cover}
use Rattle.ledger.proofs.RunLaws.{unfit-run}

-- whole rows are as long as they must be
pub record Lengths (l : Lent) : Type 0 where
  pub held : length l.held ≡ 160
  pub kinds : length l.kinds ≡ 128
  pub units : length l.units ≡ 128
  pub table : length l.table % width ≡ 0

pub lengths : (l : Lent) → is_whole l ≡ true → Lengths l
unfolding is_whole
lengths l h =
    let all = every_holds _ h in
    record { held = eqb-true _ _ all.0; kinds = eqb-true _ _ all.1.0; units = eqb-true _ _ all.1.1.0; table = eqb-true _ _ all.1.1.1.0 }

pub all_whole : (l : Lent) → Lengths l → is_whole l ≡ true
unfolding is_whole
all_whole l long = every_of _ (eq-eqb _ _ long.held, (eq-eqb _ _ long.kinds, (eq-eqb _ _ long.units, (eq-eqb _ _ long.table, tt))))

-- an outcome from its parts
pub step-parts : (left : Outcome) (applied : Applied) (table : List Trade) → applied ≡ applied_of left → table ≡ left.table → outcome applied.answer applied.book table ≡ left
step-parts left applied table e t = rw (e, t) refl

pub run-parts : (left : RunOutcome) (ran : Ran) (table : List Trade) (lines : List ℕ) → ran ≡ left.ran → table ≡ left.table → lines ≡ left.lines → record { ran = ran; table = table; lines = lines } ≡ left
run-parts left ran table lines r t n = rw (r, t, n) refl

module _ (calendar : Calendar) (l : Lent) where
  -- ---- when they hold a fit book

  pub record FitIn : Type 0 where
    pub whole : is_whole l ≡ true
    pub long : Lengths l
    pub few : length calendar ≤ 1200
    pub fits : fit calendar (book_in l) (table_in l) ≡ true

  pub not-whole : is_whole l ≡ false → fit_in calendar l ≡ false
  unfolding fit_in
  not-whole e = rw e refl

  pub unless-whole : (Lengths l → ⊥) → fit_in calendar l ≡ false
  unless-whole short = not-whole (by-test (λ x. x ≡ false) (is_whole l) (λ w. absurd (short (lengths l w))) (λ w. refl))

  of-unfit : unfit calendar (book_in l) (table_in l) ≡ true → fit_in calendar l ≡ false
  unfolding fit_in
  of-unfit e = rw e (by-test (λ x. (x && false) ≡ false) (is_whole l) (λ z. refl) (λ z. refl))

  pub too_long : 1200 < length calendar → fit_in calendar l ≡ false
  too_long h = of-unfit (too-many-words calendar (book_in l) (table_in l) h)

  pub by-fitness : is_whole l ≡ true → length calendar ≤ 1200 → fit calendar (book_in l) (table_in l) ≡ fit_in calendar l
  unfolding fit_in
  by-fitness w few =
      by-test (λ x. x ≡ (is_whole l && not (not x || ltb 1200 (length calendar)))) (fit calendar (book_in l) (table_in l)) (λ e. rw (w, le-ltb 1200 (length calendar) few) refl) (λ e. rw w refl)

  pub fit-in : fit_in calendar l ≡ true → FitIn
  unfolding fit_in
  fit-in h =
      let parts = both (is_whole l) (not (unfit calendar (book_in l) (table_in l))) h in
      let none = neither (not (fit calendar (book_in l) (table_in l))) (ltb 1200 (length calendar)) (not-true _ parts.1) in
      record { whole = parts.0; long = lengths l parts.0; few = ltb-false 1200 (length calendar) none.1; fits = not-false _ none.0 }

  -- ---- what a call gives: 1 and all as it was, or what the rules give

  unfit-where : fit_in calendar l ≡ false → is_whole l ≡ true → unfit calendar (book_in l) (table_in l) ≡ true
  unfolding fit_in
  unfit-where h w = not-false _ (rw w at h)

  pub refused-step : fit_in calendar l ≡ false → (entry : Entry) → step_in calendar l entry ≡ outcome (answer 1) (book_in l) (table_in l)
  unfolding step_in
  refused-step h entry =
      by-test (λ x. cond x (step calendar (book_in l) (table_in l) entry) (outcome (answer 1) (book_in l) (table_in l)) ≡ outcome (answer 1) (book_in l) (table_in l)) (is_whole l)
      (λ w. unfit-step calendar (book_in l) (table_in l) (unfit-where h w) entry) (λ w. refl)

  pub by-step : is_whole l ≡ true → (entry : Entry) → step_in calendar l entry ≡ step calendar (book_in l) (table_in l) entry
  unfolding step_in
  by-step w entry = rw w refl

  pub refused-cover : fit_in calendar l ≡ false → cover_in calendar l ≡ cover_refused
  unfolding cover_in
  refused-cover h =
      by-test (λ x. cond x (cover_of calendar (book_in l) (table_in l)) cover_refused ≡ cover_refused) (is_whole l) (λ w. unfit-cover calendar (book_in l) (table_in l) (unfit-where h w)) (λ w. refl)

  pub by-cover : is_whole l ≡ true → cover_in calendar l ≡ cover_of calendar (book_in l) (table_in l)
  unfolding cover_in
  by-cover w = rw w refl

  module _ (bytes buffer : List ℕ) where
    abbrev as_it_was : RunOutcome
    as_it_was = record { ran = record { number = 1; book = book_in l }; table = table_in l; lines = buffer }

    pub refused-run : fit_in calendar l ≡ false → run_in calendar l bytes buffer ≡ as_it_was
    unfolding run_in
    refused-run h =
        by-test (λ x. cond x (run_outcome calendar (book_in l) (table_in l) bytes buffer) as_it_was ≡ as_it_was) (is_whole l)
        (λ w. let told = unfit-run calendar (book_in l) (table_in l) bytes buffer (unfit-where h w) in sym (run-parts _ _ _ _ told.0 told.1 told.2)) (λ w. refl)

    pub by-run : is_whole l ≡ true → run_in calendar l bytes buffer ≡ run_outcome calendar (book_in l) (table_in l) bytes buffer
    unfolding run_in
    by-run w = rw w refl
