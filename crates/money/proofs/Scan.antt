-- The search for a trading day, day by day: what it steps over, where it stops, and that it finds nothing past the calendar.
-- Assumes nothing.
use mathlib.Core.Path.{◌≡◌, sym, ap, ap₂, ◌∙◌}
use mathlib.Core.Bool.{Bool, true, false, cond}
use mathlib.Core.Option.{none, some}
use Prim.Native.Nat.{ℕ, zero, suc, ◌+◌, ◌-◌, ◌*◌, ◌≤◌, ◌<◌}
use native.Mathlib.Nat.{zero-add, add-zero, suc-add, add-suc}
use native.Mathlib.Omega.{arith}
use lib.ListN.{length}
use Rattle.money.specs.Days.{Calendar, trades, first_trading, at_or_after}

-- days without trade are stepped over
step-over-some : (calendar : Calendar) (k n d : ℕ) → ((j : ℕ) → d ≤ j → j < d + k → trades calendar j ≡ false) → first_trading (k + n) calendar d ≡ first_trading n calendar (d + k)
unfolding first_trading
step-over-some calendar zero n d f = ap₂ (λ (x y : ℕ). first_trading x calendar y) (zero-add n) (sym (add-zero d))
step-over-some calendar (suc k) n d f =
    ap (λ (x : ℕ). first_trading x calendar d) (suc-add k n)
    ∙ ap (λ (t : Bool). cond t (some d) (first_trading (k + n) calendar (suc d))) (f d (omega arith) (here d k))
    ∙ step-over-some calendar k n (suc d) (λ j a b. f j (omega arith) (there d k j b))
    ∙ ap (λ (x : ℕ). first_trading n calendar x) (suc-add d k ∙ sym (add-suc d k))
  where
    here : (a b : ℕ) → a < a + suc b
    here a b = omega arith

    there : (a b i : ℕ) → i < suc a + b → i < a + suc b
    there a b i h = omega arith

pub step-over : (calendar : Calendar) (d e : ℕ) → d ≤ e → e ≤ 32 * length calendar → ((j : ℕ) → d ≤ j → j < e → trades calendar j ≡ false) → at_or_after calendar d ≡ at_or_after calendar e
unfolding at_or_after
step-over calendar d e h k f =
    ap (λ (x : ℕ). first_trading x calendar d) (split (32 * length calendar) d e h k)
    ∙ step-over-some calendar (e - d) (32 * length calendar - e) d (λ j a b. f j a (within d e j h b))
    ∙ ap (λ (x : ℕ). first_trading (32 * length calendar - e) calendar x) (join d e h)
  where
    split : (n a b : ℕ) → a ≤ b → b ≤ n → n - a ≡ (b - a) + (n - b)
    split n a b p q = omega arith

    join : (a b : ℕ) → a ≤ b → a + (b - a) ≡ b
    join a b p = omega arith

    within : (a b i : ℕ) → a ≤ b → i < a + (b - a) → i < b
    within a b i p q = omega arith

-- a trading day is found where it is looked for
pub stop-at : (calendar : Calendar) (d : ℕ) → d < 32 * length calendar → trades calendar d ≡ true → at_or_after calendar d ≡ some d
unfolding at_or_after first_trading
stop-at calendar d h t =
    ap (λ (x : ℕ). first_trading x calendar d) (more (32 * length calendar) d h)
    ∙ ap (λ (b : Bool). cond b (some d) (first_trading (32 * length calendar - suc d) calendar (suc d))) t
  where
    more : (n a : ℕ) → a < n → n - a ≡ suc (n - suc a)
    more n a p = omega arith

-- past the calendar nothing is found
pub past_end : (calendar : Calendar) (d : ℕ) → 32 * length calendar ≤ d → at_or_after calendar d ≡ none
unfolding at_or_after first_trading
past_end calendar d h = ap (λ (x : ℕ). first_trading x calendar d) (over (32 * length calendar) d h)
  where
    over : (n a : ℕ) → n ≤ a → n - a ≡ 0
    over n a p = omega arith
