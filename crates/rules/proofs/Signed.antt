-- Laws of signed sums: a linear equation of ℤ is proved by omega on the two parts of each number.
-- For demand 3, whose nets and sums are signed. Assumes nothing.
use mathlib.Core.Path.{◌≡◌, refl, ap}
use mathlib.Core.Bool.{Bool, true, false, cond}
use Prim.Native.Nat.{ℕ, zero, suc, ◌+◌, ◌-◌, ◌≤◌}
use native.Mathlib.Omega.{arith}
use borrow.Author.Tests.{ltb-true, ltb-false}
use lib.Dec.{ltb, le→leb}
use lib.IntN.{ℤ, pos, negsuc, neg_ℤ, sub_ℕ, ◌+ℤ◌, ◌-ℤ◌}
use lib.Signed.{◌≤ℤ◌, lt_z}

-- the part above 0 and the part below
abbrev pub up : ℤ → ℕ
up (pos n) = n
up (negsuc n) = 0

abbrev pub dn : ℤ → ℕ
dn (pos n) = 0
dn (negsuc n) = suc n

pub same : (a b : ℤ) → up a + dn b ≡ up b + dn a → a ≡ b
same (pos m) (pos n) h = let e : m ≡ n = omega arith in ap pos e
same (pos m) (negsuc n) h = absurd (omega arith)
same (negsuc m) (pos n) h = absurd (omega arith)
same (negsuc m) (negsuc n) h = let e : m ≡ n = omega arith in ap negsuc e

-- ---- the parts of a sum and of a difference

pub sub_parts : (a b : ℕ) → up (sub_ℕ a b) + b ≡ a + dn (sub_ℕ a b)
sub_parts a b = go (ltb a b) refl
  where
    go : (t : Bool) → ltb a b ≡ t → up (cond t (negsuc (b - suc a)) (pos (a - b))) + b ≡ a + dn (cond t (negsuc (b - suc a)) (pos (a - b)))
    go true e = omega (arith, ltb-true a b e)
    go false e = omega (arith, ltb-false a b e)

pub sum-parts : (a b : ℤ) → up (a +ℤ b) + (dn a + dn b) ≡ (up a + up b) + dn (a +ℤ b)
sum-parts (pos m) (pos n) = omega arith
sum-parts (pos m) (negsuc n) = omega (arith, sub_parts m (suc n))
sum-parts (negsuc m) (pos n) = omega (arith, sub_parts n (suc m))
sum-parts (negsuc m) (negsuc n) = omega arith

neg-up : (a : ℤ) → up (neg_ℤ a) ≡ dn a
neg-up (pos zero) = refl
neg-up (pos (suc n)) = refl
neg-up (negsuc n) = refl

neg-dn : (a : ℤ) → dn (neg_ℤ a) ≡ up a
neg-dn (pos zero) = refl
neg-dn (pos (suc n)) = refl
neg-dn (negsuc n) = refl

pub diff-parts : (a b : ℤ) → up (a -ℤ b) + (dn a + up b) ≡ (up a + dn b) + dn (a -ℤ b)
diff-parts a b = omega (arith, sum-parts a (neg_ℤ b), neg-up b, neg-dn b)

-- ---- order

pub not-lt-parts : (a b : ℤ) → lt_z a b ≡ false → up b + dn a ≤ up a + dn b
not-lt-parts (pos a) (pos b) e = omega (arith, ltb-false a b e)
not-lt-parts (pos a) (negsuc b) e = omega arith
not-lt-parts (negsuc a) (pos b) e = let z : ◌≡◌ {A = ℕ} 0 1 = cc in omega arith
not-lt-parts (negsuc a) (negsuc b) e = omega (arith, ltb-false b a e)

pub sub-at-least-0 : (a b : ℕ) → b ≤ a → pos 0 ≤ℤ sub_ℕ a b
sub-at-least-0 a b h = go (ltb a b) refl
  where
    go : (t : Bool) → ltb a b ≡ t → pos 0 ≤ℤ cond t (negsuc (b - suc a)) (pos (a - b))
    go true e = absurd (omega (arith, ltb-true a b e))
    go false e = record { le = le→leb 0 (a - b) (omega arith) }

-- ---- a sum's middle part brought to its end

pub swap-last : (a b c : ℤ) → (a +ℤ b) +ℤ c ≡ (a +ℤ c) +ℤ b
swap-last a b c = same ((a +ℤ b) +ℤ c) ((a +ℤ c) +ℤ b) (omega (arith, sum-parts a b, sum-parts (a +ℤ b) c, sum-parts a c, sum-parts (a +ℤ c) b))
