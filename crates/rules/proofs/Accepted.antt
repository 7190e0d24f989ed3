-- Where no cause applied, the test of each failed, cited by the cause's number, and the book was fit.
-- For demand 3, which looks at accepted events. Assumes nothing.
use mathlib.Core.Path.{◌≡◌, refl}
use mathlib.Core.Bool.{Bool, true, false, not}
use mathlib.Core.List.{List, [], ◌∷◌}
use mathlib.Core.Option.{none}
use Prim.Native.Nat.{ℕ, ◌≤◌}
use borrow.Author.Tests.{not-false}
use lib.Dec.{ltb, eqb}
use lib.ListN.{length}
use Rattle.money.specs.Limits.{calendar_limit}
use Rattle.money.specs.Causes.{Cause, first_of}
use Rattle.money.specs.Days.{Calendar}
use Rattle.money.proofs.Refusals.{Failed, failed}
use Rattle.rules.specs.Book.{Book}
use Rattle.rules.specs.Trades.{Trade, in_use, differ}
use Rattle.rules.specs.Fit.{fit}
use Rattle.rules.specs.Step.{unfit}
use Rattle.rules.proofs.FoldLaws.{neither}
use Rattle.rules.proofs.FitParts.{fit_parts}

-- ---- no cause applied

-- the test of the first cause with a number failed
abbrev picked : Bool → Type 0 → Type 0 → Type 0
picked true one other = one
picked false one other = other

abbrev pub FirstFailed : ℕ → List Cause → Type 0
FirstFailed n [] = Unit {0}
FirstFailed n (c ∷ cs) = picked (eqb c.number n) (c.applies ≡ false) (FirstFailed n cs)

abbrev pub Clear : List Cause → Type 0
Clear cs = (n : ℕ) → FirstFailed n cs

first-failed : (n : ℕ) (cs : List Cause) → Failed n cs → FirstFailed n cs
first-failed n [] f = tt
first-failed n (c ∷ cs) f = go (eqb c.number n) f.0 (first-failed n cs f.1)
  where
    go : (b : Bool) → (b ≡ true → c.applies ≡ false) → FirstFailed n cs → picked b (c.applies ≡ false) (FirstFailed n cs)
    go true f g = f refl
    go false f g = g

pub all-clear : (cs : List Cause) → first_of cs ≡ none → Clear cs
all-clear cs e n = first-failed n cs (failed cs e n)

-- ---- the book was fit

module _ (calendar : Calendar) (book : Book) (table : List Trade) (clear : unfit calendar book table ≡ false) where
  pub was-fit : fit calendar book table ≡ true
  was-fit = not-false (fit calendar book table) (neither (not (fit calendar book table)) (ltb calendar_limit (length calendar)) clear).0

  pub within-table : book.trades ≤ length table
  within-table = (fit_parts calendar book table was-fit).capacity.room

  pub contracts-differ : differ (in_use book.trades table) ≡ true
  contracts-differ = (fit_parts calendar book table was-fit).differing
