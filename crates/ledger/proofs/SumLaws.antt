-- Laws of sums, tests and steps in a row: one more, one that fails, one term that changes.
-- Assumes nothing.
use Rattle.std.specs.Prelude.{◌≡◌, ℕ, zero, suc, ◌+◌, ◌*◌, ◌<◌, ◌≤◌, Bool, true, false, List, [], ◌∷◌, Option, Some, None}
use Rattle.std.specs.Bool.{then_some}
use mathlib.Core.Path.{refl, sym, ap, ◌∙◌}
use native.Mathlib.Decide.{ℕ_discrete}
use native.Mathlib.Numerals.{add-one}
use native.Mathlib.Omega.{arith}
use Rattle.rules.specs.Folds.{sum_below, all_below, in_turn, every}
use Rattle.rules.proofs.FoldLaws.{by-test, all-at}

-- ---- a loop's first turn and one more

pub sum-none : (f : ℕ → ℕ) → sum_below 0 f ≡ 0
unfolding sum_below
sum-none f = refl

pub sum_more : (f : ℕ → ℕ) (n : ℕ) → sum_below (n + 1) f ≡ sum_below n f + f n
unfolding sum_below
sum_more f n = rw add-one

module _ {A : Type 0} where
  pub turn-none : (f : ℕ → A → A) (a : A) → in_turn 0 f a ≡ a
  unfolding in_turn
  turn-none f a = refl

  pub turn_more : (f : ℕ → A → A) (a : A) (n : ℕ) → in_turn (n + 1) f a ≡ f n (in_turn n f a)
  unfolding in_turn
  turn_more f a n = rw add-one

-- one test that fails
pub one-fails : (n : ℕ) (p : ℕ → Bool) (k : ℕ) → k < n → p k ≡ false → all_below n p ≡ false
one-fails n p k h e = by-test (λ b. b ≡ false) (all_below n p) (λ all. sym (all-at n p all k h) ∙ e) (λ none. refl)

-- tests that agree
pub all_same : (n : ℕ) (p q : ℕ → Bool) → ((k : ℕ) → k < n → p k ≡ q k) → all_below n p ≡ all_below n q
unfolding all_below
all_same zero p q h = refl
all_same (suc n) p q h = rw (all_same n p q (λ k l. h k (omega arith)), h n (omega arith)) refl

-- ---- sums

pub sum_bound : (m n : ℕ) (f : ℕ → ℕ) → ((k : ℕ) → k < n → f k ≤ m) → sum_below n f ≤ n * m
unfolding sum_below
sum_bound m zero f h = omega arith
sum_bound m (suc n) f h = omega (arith, sum_bound m n f (λ k l. h k (omega arith)), h n (omega arith))

-- a term is part of its sum
pub sum-part : (n k : ℕ) (f : ℕ → ℕ) → k < n → f k ≤ sum_below n f
unfolding sum_below
sum-part zero k f h = absurd (omega arith)
sum-part (suc n) k f h = by (ℕ_discrete k n) (λ l. sum-part n k f l)
  where
    by : Dec (k ≡ n) → (k < n → f k ≤ sum_below n f) → f k ≤ sum_below n f + f n
    by (yes e) rec = omega (arith, ap f e)
    by (no other) rec = let l : k < n = omega arith in omega (arith, rec l)

pub sum_same : (n : ℕ) (f g : ℕ → ℕ) → ((k : ℕ) → k < n → f k ≡ g k) → sum_below n f ≡ sum_below n g
unfolding sum_below
sum_same zero f g h = refl
sum_same (suc n) f g h = omega (arith, sum_same n f g (λ k l. h k (omega arith)), h n (omega arith))

-- two sums that differ in one term differ by that term
pub sum-changed : (n k : ℕ) (f g : ℕ → ℕ) → k < n → ((j : ℕ) → j < n → (j ≡ k → ⊥) → f j ≡ g j) → sum_below n f + g k ≡ sum_below n g + f k
unfolding sum_below
sum-changed zero k f g h same = absurd (omega arith)
sum-changed (suc n) k f g h same =
    by (ℕ_discrete k n) (λ l. sum-changed n k f g l (λ j m. same j (omega arith)))
  where
    by : Dec (k ≡ n) → (k < n → sum_below n f + g k ≡ sum_below n g + f k) → sum_below n f + f n + g k ≡ sum_below n g + g n + f k
    by (yes e) rec = omega (arith, sum_same n f g (λ j l. same j (omega arith) (λ q. omega arith)), ap f e, ap g e)
    by (no other) rec = let l : k < n = omega arith in omega (arith, rec l, same n (omega arith) (λ q. other (sym q)))

-- ---- a list of tests, from the first on

pub test-fails : (test : Bool) (tests : List Bool) → test ≡ false → false ≡ every (test ∷ tests)
unfolding every
test-fails test tests e = rw e

pub test-holds : (test : Bool) (tests : List Bool) (r : Bool) → test ≡ true → r ≡ every tests → r ≡ every (test ∷ tests)
unfolding every
test-holds test tests r e f = rw e f

pub only-test : (test : Bool) → test ≡ every (test ∷ [])
unfolding every
only-test true = refl
only-test false = refl

-- ---- a value told where a test holds

pub some-told : {A : Type 0} (test : Bool) (told value : A) → ◌≡◌ {A = Option A} (Some told) (then_some test value) → (test ≡ true) × (told ≡ value)
some-told true told value e = (refl, cc)
some-told false told value e = let z : ◌≡◌ {A = ℕ} 0 1 = cc in absurd (omega arith)

pub none-told : {A : Type 0} (test : Bool) (value : A) → ◌≡◌ {A = Option A} None (then_some test value) → test ≡ false
none-told true value e = let z : ◌≡◌ {A = ℕ} 0 1 = cc in absurd (omega arith)
none-told false value e = refl
