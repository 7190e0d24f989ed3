-- Signed numbers of 64 bits: which sums fit, and what the machine reads back. For the nets' few functions, and for headroom.
-- Assumes nothing.
use Rattle.std.specs.Prelude.{◌≡◌, ℕ, zero, suc, ◌+◌, ◌-◌, ◌≤◌, Bool, true, false, cond, not, ltb, ℤ, pos, negsuc, ◌+ℤ◌, neg_ℤ, nat_abs}
use mathlib.Core.Path.{refl, sym}
use native.Mathlib.Omega.{arith}
use borrow.Author.Tests.{lt-ltb, le-ltb, leb-true, leb-false}
use lib.IntN.{sub_ℕ}
use mir.Val.{SFits}
use mir.Syntax.{w64}
use Rattle.rules.specs.Fit.{net_fit}
use Rattle.rules.proofs.Signed.{same, sub_parts, diff-parts}

-- ---- the limit

pub within-limit : (z : ℤ) → net_fit z ≡ true → nat_abs z ≤ 4000000000000000000
within-limit z h = leb-true (nat_abs z) 4000000000000000000 h

-- the same limit as the events' causes ask it
pub over-net : (z : ℤ) → net_fit z ≡ false → ltb 4000000000000000000 (nat_abs z) ≡ true
over-net z h = lt-ltb 4000000000000000000 (nat_abs z) (leb-false (nat_abs z) 4000000000000000000 h)

pub within-net : (z : ℤ) → net_fit z ≡ true → ltb 4000000000000000000 (nat_abs z) ≡ false
within-net z h = le-ltb 4000000000000000000 (nat_abs z) (within-limit z h)

pub over-is-unfit : (z : ℤ) → not (net_fit z) ≡ ltb 4000000000000000000 (nat_abs z)
over-is-unfit z = by (net_fit z) refl
  where
    by : (b : Bool) → net_fit z ≡ b → not b ≡ ltb 4000000000000000000 (nat_abs z)
    by true e = sym (within-net z e)
    by false e = sym (over-net z e)

-- ---- what fits 64 bits

pub small-fits : (z : ℤ) → nat_abs z ≤ 9000000000000000000 → SFits w64 z
small-fits (pos n) h = record { sfits = omega arith }
small-fits (negsuc n) h = record { sfits = omega arith }

pub size-of-sum : (a b : ℤ) → nat_abs (a +ℤ b) ≤ nat_abs a + nat_abs b
size-of-sum (pos a) (pos b) = omega arith
size-of-sum (pos a) (negsuc b) = by_order (ltb a (suc b))
  where
    by_order : (t : Bool) → nat_abs (cond t (negsuc (suc b - suc a)) (pos (a - suc b))) ≤ a + suc b
    by_order true = omega arith
    by_order false = omega arith
size-of-sum (negsuc a) (pos b) = by_order (ltb b (suc a))
  where
    by_order : (t : Bool) → nat_abs (cond t (negsuc (suc a - suc b)) (pos (b - suc a))) ≤ suc a + b
    by_order true = omega arith
    by_order false = omega arith
size-of-sum (negsuc a) (negsuc b) = omega arith

pub size-of-negative : (a : ℕ) → nat_abs (neg_ℤ (pos a)) ≡ a
size-of-negative zero = refl
size-of-negative (suc a) = refl

pub plus-negative : (a b : ℕ) → pos a +ℤ neg_ℤ (pos b) ≡ sub_ℕ a b
plus-negative a b = same _ _ (omega (arith, sub_parts a b, diff-parts (pos a) (pos b)))
