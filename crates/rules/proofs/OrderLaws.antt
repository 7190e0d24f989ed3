-- Laws of the order of refusals, over any list of causes: the first that applies by its place, by its size, and by its own number.
-- For Answers. Assumes nothing.
use mathlib.Core.Path.{◌≡◌, refl, ap}
use mathlib.Core.Logic.{◌⊎◌, inl, inr}
use mathlib.Core.Bool.{Bool, true, false, cond, ◌&&◌, ◌||◌}
use mathlib.Core.List.{List, [], ◌∷◌, map}
use mathlib.Core.Option.{some}
use Prim.Native.Nat.{ℕ, ◌≤◌}
use native.Mathlib.Omega.{arith}
use borrow.Author.Tests.{leb-true}
use lib.Dec.{leb}
use Rattle.money.specs.Causes.{Cause, ◌⇒◌, first_of}
use Rattle.money.proofs.Smallest.{rising, Least}
use Rattle.rules.specs.Order.{order, place, placed, displaced}
use Rattle.money.proofs.TwoTests.{both}

-- all but the displaced stand by their size
abbrev standing : List ℕ → List Cause
standing [] = []
standing (number ∷ numbers) = cond (displaced number) (standing numbers) ((true ⇒ number) ∷ standing numbers)

pub others-by-size : rising 0 (standing order) ≡ true
others-by-size = refl

-- the first cause that applies stands first by its place
pub first-placed : (cs : List Cause) (k : ℕ) → first_of cs ≡ some k → first_of (map placed cs) ≡ some (place k)
unfolding first_of
first-placed [] k e = let z : ◌≡◌ {A = ℕ} 0 1 = cc in absurd (omega arith)
first-placed (c ∷ cs) k e = go c.applies (first-placed cs k) e
  where
    go : (b : Bool) → (first_of cs ≡ some k → first_of (map placed cs) ≡ some (place k)) → cond b (some c.number) (first_of cs) ≡ some k
        → cond b (some (place c.number)) (first_of (map placed cs)) ≡ some (place k)
    go true f e = let h : c.number ≡ k = cc in ap (λ n. some (place n)) h
    go false f e = f e

-- ---- by size

-- a number is at most every number of some causes
abbrev pub leads : ℕ → List Cause → Bool
leads k [] = true
leads k (c ∷ cs) = leb k c.number && leads k cs

-- every number that is not displaced is at most those after it
abbrev pub by_size : List Cause → Bool
by_size [] = true
by_size (c ∷ cs) = (displaced c.number || leads c.number cs) && by_size cs

leads-least : (k : ℕ) (cs : List Cause) → leads k cs ≡ true → Least k cs
leads-least k [] e = tt
leads-least k (c ∷ cs) e = let b = both (leb k c.number) (leads k cs) e in ((λ a. leb-true k c.number b.0), leads-least k cs b.1)

pub least-by-size : (k : ℕ) (cs : List Cause) → by_size cs ≡ true → displaced k ≡ false → first_of cs ≡ some k → Least k cs
unfolding first_of
least-by-size k [] s d e = tt
least-by-size k (c ∷ cs) s d e =
    let b = both (displaced c.number || leads c.number cs) (by_size cs) s in
    go c.applies refl b.0 (least-by-size k cs b.1 d) e
  where
    go : (b : Bool) → c.applies ≡ b → (displaced c.number || leads c.number cs) ≡ true → (first_of cs ≡ some k → Least k cs) → cond b (some c.number) (first_of cs) ≡ some k
        → (c.applies ≡ true → k ≤ c.number) × Least k cs
    go true m s f e =
        let h : c.number ≡ k = cc in
        let ahead : leads k cs ≡ true = rw (h, d) at s in
        ((λ a. omega arith), leads-least k cs ahead)
    go false m s f e = ((λ a. (let z : ◌≡◌ {A = ℕ} 0 1 = cc in absurd (omega arith))), f e)

-- ---- a cause with a number applies
abbrev pub Applies : ℕ → List Cause → Type 0
Applies k [] = ⊥
Applies k (c ∷ cs) = ((c.number ≡ k) × (c.applies ≡ true)) ⊎ Applies k cs

pub given-applies : (cs : List Cause) (k : ℕ) → first_of cs ≡ some k → Applies k cs
unfolding first_of
given-applies [] k e = let z : ◌≡◌ {A = ℕ} 0 1 = cc in absurd (omega arith)
given-applies (c ∷ cs) k e = go c.applies refl (given-applies cs k) e
  where
    go : (b : Bool) → c.applies ≡ b → (first_of cs ≡ some k → Applies k cs) → cond b (some c.number) (first_of cs) ≡ some k → ((c.number ≡ k) × (c.applies ≡ true)) ⊎ Applies k cs
    go true m f e = let h : c.number ≡ k = cc in inl (h, m)
    go false m f e = inr (f e)
