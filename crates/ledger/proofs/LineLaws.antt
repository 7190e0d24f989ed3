-- A line of the listing: headroom's sign and size, its seven numbers in a row, and what they tell of an outcome.
-- For the proofs of line.rt and run.rt. Assumes nothing.
use Rattle.std.specs.Prelude.{◌≡◌, ℕ, ◌+◌, ◌<◌, ◌≤◌, ltb, List, [], ◌∷◌, nat_abs}
use Rattle.std.specs.Int.{abs_diff, from_bool}
use native.Mathlib.Decide.{dec_lt}
use native.Mathlib.Omega.{arith}
use borrow.Author.Tests.{lt-ltb, le-ltb}
use lib.IntN.{sub_ℕ}
use Rattle.rules.specs.Vault.{headroom_of, headroom}
use Rattle.rules.specs.Step.{Outcome}
use Rattle.rules.specs.Listing.{sign_of, line_of}
use Rattle.ledger.specs.Types.{Trade, Applied}
use Rattle.ledger.specs.Flat.{applied_of}
use Rattle.ledger.specs.Figures.{Figures, figures_of}

-- ---- headroom's sign and size: a difference of two numbers, by which is smaller

module _ (covered outstanding : ℕ) where
  pub sign-told : from_bool (ltb covered outstanding) ≡ sign_of (sub_ℕ covered outstanding)
  sign-told = by (dec_lt covered outstanding)
    where
      by : Dec (covered < outstanding) → from_bool (ltb covered outstanding) ≡ sign_of (sub_ℕ covered outstanding)
      by (yes h) = rw (lt-ltb covered outstanding h)
      by (no h) = rw (le-ltb covered outstanding (omega arith))

  pub size-told : abs_diff covered outstanding ≡ nat_abs (sub_ℕ covered outstanding)
  size-told = by (dec_lt covered outstanding)
    where
      by : Dec (covered < outstanding) → abs_diff covered outstanding ≡ nat_abs (sub_ℕ covered outstanding)
      by (yes h) = rw (lt-ltb covered outstanding h) (omega arith)
      by (no h) = let ample : outstanding ≤ covered = omega arith in rw (le-ltb covered outstanding ample) (omega arith)

-- ---- what a line tells

-- its line, from what the code has of it: O and V, and the size
pub line-told : (left : Outcome) (applied : Applied) (table : List Trade) {figures : Figures} → applied ≡ applied_of left → table ≡ left.table → figures ≡ figures_of applied.book table
    → (applied.answer.number
    ∷ sign_of (headroom_of applied.book.size.0 figures.value.0 figures.outstanding.0)
    ∷ nat_abs (headroom_of applied.book.size.0 figures.value.0 figures.outstanding.0)
    ∷ figures.outstanding.0
    ∷ applied.book.cash.own.0
    ∷ applied.book.cash.client.0
    ∷ (applied.book.vault.guarantee.effective.0 + applied.book.vault.guarantee.arriving.0)
    ∷ [])
    ≡ line_of left
unfolding line_of headroom
line-told left applied table e t f = rw (f, e, t)
