-- The order of refusals: "The smallest number that applies is given" (01, Turned-down events), but where a number has a place of its own (02).
-- Assumes nothing.
use Rattle.std.specs.Prelude.{ℕ, suc, Bool, cond, List, [], ◌∷◌, eqb}
use Rattle.money.specs.Causes.{Cause, ◌⇒◌}

-- "20, …, placed after 3" (02, ask 4); the others stand by their size
abbrev pub order : List ℕ
order = 1 ∷ 2 ∷ 3 ∷ 20 ∷ 4 ∷ 5 ∷ 6 ∷ 7 ∷ 8 ∷ 9 ∷ 10 ∷ 11 ∷ 12 ∷ 13 ∷ 14 ∷ 15 ∷ 16 ∷ 17 ∷ []

-- the numbers that do not stand by their size
abbrev pub displaced : ℕ → Bool
displaced number = eqb number 20

-- how many numbers stand before a number
abbrev pub place_in : ℕ → List ℕ → ℕ
place_in number [] = 0
place_in number (first ∷ others) = cond (eqb first number) 0 (suc (place_in number others))

abbrev pub place : ℕ → ℕ
place number = place_in number order

-- a cause by its place
abbrev pub placed : Cause → Cause
placed c = c.applies ⇒ place c.number
