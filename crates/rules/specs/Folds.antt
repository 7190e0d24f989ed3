-- Sums, tests and steps in a row.
-- Assumes nothing.
use Rattle.std.specs.Prelude.{ℕ, zero, suc, ◌+◌, Bool, true, false, cond, ◌&&◌, List, [], ◌∷◌}

-- f 0 + f 1 + … + f (n - 1)
unfoldable pub sum_below : ℕ → (ℕ → ℕ) → ℕ
sum_below zero f = 0
sum_below (suc n) f = sum_below n f + f n

-- p 0, p 1, … and p (n - 1)
unfoldable pub all_below : ℕ → (ℕ → Bool) → Bool
all_below zero p = true
all_below (suc n) p = all_below n p && p n

-- f 0, then f 1, … then f (n - 1)
unfoldable pub in_turn : {A : Type 0} → ℕ → (ℕ → A → A) → A → A
in_turn zero f a = a
in_turn (suc n) f a = f n (in_turn n f a)

-- every test of a list holds
unfoldable pub every : List Bool → Bool
every [] = true
every (test ∷ tests) = cond test (every tests) false
