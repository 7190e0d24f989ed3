-- A turn of the search: the word masked below a bit is 0, and is stepped over, or its trailing zeros are the bit of the day found.
-- Assumes nothing.
use mathlib.Core.Path.{◌≡◌, ap, ap₂, ◌∙◌}
use mathlib.Core.Bool.{true, false}
use mathlib.Core.Option.{some}
use Prim.Native.Nat.{ℕ, ◌+◌, ◌-◌, ◌*◌, ◌/◌, ◌%◌, ◌^◌, ◌≤◌, ◌<◌}
use native.Mathlib.Omega.{arith}
use lib.Count.{count_trailing_zeros}
use lib.Bits.{bit_and}
use lib.Dec.{eqb}
use lib.ListN.{length, get_or}
use Rattle.money.specs.Days.{Calendar, trades, at_or_after}
use Rattle.money.proofs.Digits.{digit, cleared, masked-clears, FirstSet, none-set, first-set}
use Rattle.money.proofs.Scan.{step-over, stop-at}

-- the word of the calendar, masked below a bit, as the machine has it
abbrev pub masked : Calendar → ℕ → ℕ → ℕ
masked calendar word bit = bit_and (get_or calendar word 0) (4294967295 * 2 ^ bit % 2 ^ 32)

module _ (calendar : Calendar) (word : ℕ) where
  -- a day of a word trades by that word's digit
  by-digit : (j : ℕ) → 32 * word ≤ j → j < 32 * word + 32 → trades calendar j ≡ eqb (digit (get_or calendar word 0) (j - 32 * word)) 1
  unfolding trades
  by-digit j l h =
      let there : j / 32 ≡ word = omega arith in
      let place : j % 32 ≡ j - 32 * word = omega arith in
      ap₂ (λ (x y : ℕ). eqb (digit (get_or calendar x 0) y) 1) there place

  rests : (j : ℕ) → 32 * word ≤ j → j < 32 * word + 32 → digit (get_or calendar word 0) (j - 32 * word) ≡ 0 → trades calendar j ≡ false
  rests j l h e = by-digit j l h ∙ ap (λ (x : ℕ). eqb x 1) e

  does : (j : ℕ) → 32 * word ≤ j → j < 32 * word + 32 → digit (get_or calendar word 0) (j - 32 * word) ≡ 1 → trades calendar j ≡ true
  does j l h e = by-digit j l h ∙ ap (λ (x : ℕ). eqb x 1) e

module _ (calendar : Calendar) (word bit : ℕ) (l : word < length calendar) (k : bit < 32) (f : get_or calendar word 0 < 2 ^ 32) where
  clears : masked calendar word bit ≡ cleared (get_or calendar word 0) bit
  clears = masked-clears (get_or calendar word 0) bit f k

  pub next_word : masked calendar word bit ≡ 0 → at_or_after calendar (32 * word + bit) ≡ at_or_after calendar (32 * (word + 1) + 0)
  next_word z =
      step-over calendar (32 * word + bit) (32 * (word + 1) + 0) (omega arith) (omega arith) (λ j a b.
      rests calendar word j (omega arith) (omega arith) (none-set (get_or calendar word 0) bit (masked calendar word bit) clears z (j - 32 * word) (omega arith)))

  found : (masked calendar word bit ≡ 0 → ⊥) → FirstSet (get_or calendar word 0) bit (count_trailing_zeros 32 (masked calendar word bit))
  found z = first-set (get_or calendar word 0) bit (masked calendar word bit) f clears z

  pub in-word : (masked calendar word bit ≡ 0 → ⊥) → count_trailing_zeros 32 (masked calendar word bit) < 32
  in-word z = (found z).below

  pub this-word : (masked calendar word bit ≡ 0 → ⊥) → at_or_after calendar (32 * word + bit) ≡ some (word * 32 + count_trailing_zeros 32 (masked calendar word bit))
  this-word z = go (count_trailing_zeros 32 (masked calendar word bit)) (found z)
    where
      go : (t : ℕ) → FirstSet (get_or calendar word 0) bit t → at_or_after calendar (32 * word + bit) ≡ some (word * 32 + t)
      go t at =
          let here : (word * 32 + t) - 32 * word ≡ t = omega arith in
          step-over calendar (32 * word + bit) (word * 32 + t) (omega (arith, at.from)) (omega (arith, at.below)) (λ j a b.
          rests calendar word j (omega arith) (omega (arith, at.below)) (at.none_before (j - 32 * word) (omega arith) (omega arith)))
          ∙ stop-at calendar (word * 32 + t) (omega (arith, at.below))
          (does calendar word (word * 32 + t) (omega arith) (omega (arith, at.below)) (rw here at.set))
