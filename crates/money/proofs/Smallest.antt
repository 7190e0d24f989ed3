-- "The smallest number that applies is given": so where the causes' numbers stand in rising order.
-- Assumes nothing.
use mathlib.Core.Path.{◌≡◌, refl}
use mathlib.Core.Bool.{Bool, true, false, cond}
use mathlib.Core.List.{List, [], ◌∷◌}
use mathlib.Core.Option.{Option, some}
use Prim.Native.Nat.{ℕ, ◌≤◌}
use native.Mathlib.Omega.{arith}
use borrow.Author.Tests.{leb-true}
use lib.Dec.{leb}
use Rattle.money.specs.Units.{Sheets, Ticks}
use Rattle.money.specs.Causes.{Cause, first_of}
use Rattle.money.specs.Days.{Calendar, search_causes}
use Rattle.money.specs.Dates.{Date, date_causes, day_causes}
use Rattle.money.specs.Money.{initial_amount_causes, redemption_causes}
use Rattle.money.specs.Collateral.{worth_causes}

-- each number is at least the one before it
abbrev pub rising : ℕ → List Cause → Bool
rising n [] = true
rising n (c ∷ cs) = cond (leb n c.number) (rising c.number cs) false

-- k is at most the number of every cause that applies
abbrev pub Least : ℕ → List Cause → Type 0
Least k [] = Unit {0}
Least k (c ∷ cs) = (c.applies ≡ true → k ≤ c.number) × Least k cs

below : (n : ℕ) (cs : List Cause) → rising n cs ≡ true → (k : ℕ) → k ≤ n → Least k cs
below n [] r k h = tt
below n (c ∷ cs) r k h = go (leb n c.number) refl (λ r. below c.number cs r k) r
  where
    go : (z : Bool) → leb n c.number ≡ z → (rising c.number cs ≡ true → k ≤ c.number → Least k cs) → cond z (rising c.number cs) false ≡ true → Least k (c ∷ cs)
    go true e f r = let l : k ≤ c.number = omega (arith, leb-true n c.number e) in ((λ _. l), f r l)
    go false e f r = let z : ◌≡◌ {A = ℕ} 0 1 = cc in absurd (omega arith)

pub least-cause : (n k : ℕ) (cs : List Cause) → rising n cs ≡ true → first_of cs ≡ some k → Least k cs
unfolding first_of
least-cause n k [] r e = tt
least-cause n k (c ∷ cs) r e = go c.applies refl (leb n c.number) (least-cause c.number k cs) r e
  where
    go : (b : Bool) → c.applies ≡ b → (z : Bool) → (rising c.number cs ≡ true → first_of cs ≡ some k → Least k cs)
        → cond z (rising c.number cs) false ≡ true → cond b (some c.number) (first_of cs) ≡ some k → Least k (c ∷ cs)
    go b m false f r e = let z : ◌≡◌ {A = ℕ} 0 1 = cc in absurd (omega arith)
    go true m true f r e = let h : c.number ≡ k = cc in ((λ _. omega arith), below c.number cs r k (omega arith))
    go false m true f r e = ((λ y. (let z : ◌≡◌ {A = ℕ} 0 1 = cc in absurd (omega arith))), f r e)

-- the calls of this layer
pub search-smallest : (calendar : Calendar) (found : Option ℕ) (k : ℕ) → first_of (search_causes calendar found) ≡ some k → Least k (search_causes calendar found)
search-smallest calendar found k e = least-cause 0 k _ refl e

pub date-smallest : (d : Date) (k : ℕ) → first_of (date_causes d) ≡ some k → Least k (date_causes d)
date-smallest d k e = least-cause 0 k _ refl e

pub day-smallest : (day k : ℕ) → first_of (day_causes day) ≡ some k → Least k (day_causes day)
day-smallest day k e = least-cause 0 k _ refl e

pub initial-smallest : (q : Sheets) (k : ℕ) → first_of (initial_amount_causes q) ≡ some k → Least k (initial_amount_causes q)
initial-smallest q k e = least-cause 0 k _ refl e

pub redemption-smallest : (q : Sheets) (price : Ticks) (days k : ℕ) → first_of (redemption_causes q price days) ≡ some k → Least k (redemption_causes q price days)
redemption-smallest q price days k e = least-cause 0 k _ refl e

pub worth-smallest : (kind effective frozen rate k : ℕ) → first_of (worth_causes kind effective frozen rate) ≡ some k → Least k (worth_causes kind effective frozen rate)
worth-smallest kind effective frozen rate k e = least-cause 0 k _ refl e
