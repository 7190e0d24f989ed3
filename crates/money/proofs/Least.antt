-- The search means what a reader expects: what is found is the least trading day from a day on; where nothing is found, no day from it on trades.
-- Assumes nothing.
use mathlib.Core.Path.{◌≡◌, refl, sym, ap, ◌∙◌}
use mathlib.Core.Bool.{Bool, true, false, cond}
use mathlib.Core.Logic.{⊎_elim}
use mathlib.Core.Option.{none, some}
use Prim.Native.Nat.{ℕ, zero, suc, ◌+◌, ◌-◌, ◌*◌, ◌/◌, ◌%◌, ◌^◌, ◌≤◌, ◌<◌}
use native.Mathlib.Nat.{eq-or-lt_of_le, zero-div}
use native.Mathlib.Decide.{dec_le}
use native.Mathlib.Omega.{arith}
use lib.Dec.{eqb}
use lib.ListN.{length, get_or-eq_default}
use Rattle.money.specs.Days.{Calendar, trades, first_trading, at_or_after, next_after, earliest}

-- d is the least trading day from a day on
pub record LeastFrom (calendar : Calendar) (from d : ℕ) : Type 0 where
  pub later : from ≤ d
  pub within : d < 32 * length calendar
  pub trading : trades calendar d ≡ true
  pub none_before : (j : ℕ) → from ≤ j → j < d → trades calendar j ≡ false

-- what the search of n days from `from` on says, by what it found
record Among (calendar : Calendar) (n from d : ℕ) : Type 0 where
  later : from ≤ d
  within : d < from + n
  trading : trades calendar d ≡ true
  none_before : (j : ℕ) → from ≤ j → j < d → trades calendar j ≡ false

among : (calendar : Calendar) (n from d : ℕ) → first_trading n calendar from ≡ some d → Among calendar n from d
unfolding first_trading
among calendar zero from d e = let z : ◌≡◌ {A = ℕ} 0 1 = cc in absurd (omega arith)
among calendar (suc n) from d e = go (trades calendar from) refl (among calendar n (suc from) d) e
  where
    go : (b : Bool) → trades calendar from ≡ b → (first_trading n calendar (suc from) ≡ some d → Among calendar n (suc from) d) → cond b (some from) (first_trading n calendar (suc from)) ≡ some d → Among calendar (suc n) from d
    go true t f e =
        let s : from ≡ d = cc in
        record { later = omega arith; within = omega arith; trading = ap (trades calendar) (sym s) ∙ t; none_before = λ j a b. absurd (omega arith) }
    go false t f e =
        let a = f e in
        record {
          later = omega (arith, a.later);
          within = omega (arith, a.within);
          trading = a.trading;
          none_before = λ j l b. ⊎_elim (λ (q : from ≡ j). ap (trades calendar) (sym q) ∙ t) (λ (m : from < j). a.none_before j m b) (eq-or-lt_of_le l);
        }

none-among : (calendar : Calendar) (n from : ℕ) → first_trading n calendar from ≡ none → (j : ℕ) → from ≤ j → j < from + n → trades calendar j ≡ false
unfolding first_trading
none-among calendar zero from e j a b = absurd (omega arith)
none-among calendar (suc n) from e j a b = go (trades calendar from) refl (λ e. none-among calendar n (suc from) e j) e
  where
    go : (t : Bool) → trades calendar from ≡ t → (first_trading n calendar (suc from) ≡ none → suc from ≤ j → j < suc from + n → trades calendar j ≡ false) → cond t (some from) (first_trading n calendar (suc from)) ≡ none → trades calendar j ≡ false
    go true t f e = let z : ◌≡◌ {A = ℕ} 0 1 = cc in absurd (omega arith)
    go false t f e = ⊎_elim (λ (q : from ≡ j). ap (trades calendar) (sym q) ∙ t) (λ (m : from < j). f e m (omega arith)) (eq-or-lt_of_le a)

-- a day past the calendar does not trade
pub past-rests : (calendar : Calendar) (j : ℕ) → 32 * length calendar ≤ j → trades calendar j ≡ false
unfolding trades
past-rests calendar j h =
    let out : length calendar ≤ j / 32 = omega arith in
    ap (λ (x : ℕ). eqb (x / 2 ^ (j % 32) % 2) 1) (get_or-eq_default calendar 0 out)
    ∙ ap (λ (x : ℕ). eqb (x % 2) 1) (zero-div (2 ^ (j % 32)))

-- what is found is the least trading day from a day on
pub found-is-least : (calendar : Calendar) (from d : ℕ) → at_or_after calendar from ≡ some d → LeastFrom calendar from d
unfolding at_or_after
found-is-least calendar from d e =
    let a = among calendar (32 * length calendar - from) from d e in
    record { later = a.later; within = omega (arith, a.later, a.within); trading = a.trading; none_before = a.none_before }

-- where nothing is found, no day from it on trades
pub none-trades : (calendar : Calendar) (from : ℕ) → at_or_after calendar from ≡ none → (j : ℕ) → from ≤ j → trades calendar j ≡ false
unfolding at_or_after
none-trades calendar from e j a = side (dec_le (32 * length calendar) j)
  where
    side : Dec (32 * length calendar ≤ j) → trades calendar j ≡ false
    side (yes l) = past-rests calendar j l
    side (no l) = none-among calendar (32 * length calendar - from) from e j a (omega arith)

-- the same of the next trading day and of the earliest
pub next-is-least : (calendar : Calendar) (day d : ℕ) → next_after calendar day ≡ some d → LeastFrom calendar (day + 1) d
unfolding next_after
next-is-least calendar day d e = found-is-least calendar (day + 1) d e

pub no-next-trades : (calendar : Calendar) (day : ℕ) → next_after calendar day ≡ none → (j : ℕ) → day < j → trades calendar j ≡ false
unfolding next_after
no-next-trades calendar day e j l = none-trades calendar (day + 1) e j (omega arith)

pub earliest-is-least : (calendar : Calendar) (d : ℕ) → earliest calendar ≡ some d → LeastFrom calendar 0 d
unfolding earliest
earliest-is-least calendar d e = found-is-least calendar 0 d e

pub no-earliest-trades : (calendar : Calendar) → earliest calendar ≡ none → (j : ℕ) → trades calendar j ≡ false
unfolding earliest
no-earliest-trades calendar e j = none-trades calendar 0 e j (omega arith)
