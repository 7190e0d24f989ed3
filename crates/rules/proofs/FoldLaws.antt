-- Laws of tests and steps in a row, and of one place of a list that is set anew.
-- Assumes nothing.
use mathlib.Core.Path.{◌≡◌, refl, ap, ◌∙◌}
use mathlib.Core.Logic.{⊎_elim}
use mathlib.Core.Bool.{Bool, true, false, cond, not, ◌||◌}
use mathlib.Core.List.{List, [], ◌∷◌}
use Prim.Native.Nat.{ℕ, zero, suc, ◌<◌}
use native.Mathlib.Nat.{eq-or-lt_of_le, le_of_suc-le-suc}
use native.Mathlib.Omega.{arith}
use lib.ListN.{get_or, set}
use Rattle.rules.specs.Folds.{all_below, in_turn, every}
use Rattle.money.proofs.TwoTests.{both, both_of}

-- ---- one test

-- what holds where a test is true and where it is false holds of the test
pub by-test : (P : Bool → Type 0) (c : Bool) → (c ≡ true → P true) → (c ≡ false → P false) → P c
by-test P true yes' no' = yes' refl
by-test P false yes' no' = no' refl

-- a search that would end here with the opposite of its result went on
pub not-here : (x here rest : Bool) → cond here (not x) rest ≡ x → (here ≡ false) × (rest ≡ x)
not-here x false rest e = (refl, e)
not-here true true rest e = let z : ◌≡◌ {A = ℕ} 0 1 = cc in absurd (omega arith)
not-here false true rest e = let z : ◌≡◌ {A = ℕ} 0 1 = cc in absurd (omega arith)

-- ---- two tests of which neither holds

pub neither : (x y : Bool) → (x || y) ≡ false → (x ≡ false) × (y ≡ false)
neither true y e = let z : ◌≡◌ {A = ℕ} 0 1 = cc in absurd (omega arith)
neither false y e = (refl, e)

-- ---- every test of a list

abbrev pub Holds : List Bool → Type 0
Holds [] = Unit {0}
Holds (test ∷ tests) = (test ≡ true) × Holds tests

pub every_holds : (tests : List Bool) → every tests ≡ true → Holds tests
unfolding every
every_holds [] e = tt
every_holds (true ∷ tests) e = (refl, every_holds tests e)
every_holds (false ∷ tests) e = let z : ◌≡◌ {A = ℕ} 0 1 = cc in absurd (omega arith)

pub every_of : (tests : List Bool) → Holds tests → every tests ≡ true
unfolding every
every_of [] h = refl
every_of (true ∷ tests) h = every_of tests h.1
every_of (false ∷ tests) h = h.0

-- ---- all below a number

pub all-at : (n : ℕ) (p : ℕ → Bool) → all_below n p ≡ true → (k : ℕ) → k < n → p k ≡ true
unfolding all_below
all-at zero p e k h = absurd (omega arith)
all-at (suc n) p e k h =
    let b = both (all_below n p) (p n) e in
    ⊎_elim (λ (q : k ≡ n). ap p q ∙ b.1) (λ (l : k < n). all-at n p b.0 k l) (eq-or-lt_of_le (le_of_suc-le-suc h))

pub all_of : (n : ℕ) (p : ℕ → Bool) → ((k : ℕ) → k < n → p k ≡ true) → all_below n p ≡ true
unfolding all_below
all_of zero p f = refl
all_of (suc n) p f = both_of (all_below n p) (p n) (all_of n p (λ k h. f k (omega arith))) (f n (omega arith))

-- ---- in turn: what each step keeps, the row keeps

pub in-turn-keeps : {A : Type 0} (P : A → Type 0) (n : ℕ) (f : ℕ → A → A) (a : A) → ((i : ℕ) (a : A) → P a → P (f i a)) → P a → P (in_turn n f a)
unfolding in_turn
in-turn-keeps P zero f a keeps p = p
in-turn-keeps P (suc n) f a keeps p = keeps n (in_turn n f a) (in-turn-keeps P n f a keeps p)

-- ---- a list with one place set anew has the new element, or the default past its end, or what it had elsewhere

pub at_set : {A : Type 0} (P : A → Type 0) (l : List A) (i j : ℕ) (a d : A) → (j ≡ i → P a) → P d → ((j ≡ i → ⊥) → P (get_or l j d)) → P (get_or (set l i a) j d)
at_set P [] i j a d p q r = q
at_set P (x ∷ l) zero zero a d p q r = p refl
at_set P (x ∷ l) zero (suc j) a d p q r = r (λ e. omega arith)
at_set P (x ∷ l) (suc i) zero a d p q r = r (λ e. omega arith)
at_set P (x ∷ l) (suc i) (suc j) a d p q r = at_set P l i j a d (λ e. p (ap suc e)) q (λ other. r (λ e. other (omega arith)))
