-- The day's group of fitness: kept within a day, and through an Open to the next day. (01, The book; Twelve events, 1; art. 61)
-- Assumes nothing.
use mathlib.Core.Path.{◌≡◌, refl, sym, ap, ◌∙◌}
use mathlib.Core.Bool.{Bool, true, false, not, ◌&&◌, ◌||◌}
use mathlib.Core.List.{List, [], ◌∷◌}
use mathlib.Core.Option.{Option, none, some}
use Prim.Native.Nat.{ℕ, ◌≤◌}
use native.Mathlib.Omega.{arith}
use borrow.Author.Tests.{eqb-true}
use lib.Dec.{eqb}
use lib.ListN.{take}
use Rattle.money.specs.Days.{Calendar, trades, next_after, missing, day_or_0}
use Rattle.money.proofs.Least.{next-is-least, earliest-is-least}
use Rattle.rules.specs.Book.{Day, None, Some, Phase, Closed, Trading, Paid, is_closed, is_trading, is_paid}
use Rattle.rules.specs.Days.{following, to_day, payment_day, followed}
use Rattle.rules.specs.Trades.{Trade}
use Rattle.rules.specs.Fit.{all_trades, day_fit}
use Rattle.money.proofs.TwoTests.{both}
use Rattle.rules.proofs.FoldLaws.{every_holds, every_of}
use Rattle.rules.proofs.TableFit.{Fewer, begun_by, fewer-begun}

-- ---- phases that are not Closed

pub trading-not-closed : (phase : Phase) → not (is_trading phase) ≡ false → is_closed phase ≡ false
trading-not-closed Closed e = e
trading-not-closed Trading e = refl
trading-not-closed Paid e = refl

pub closing-not-closed : (phase : Phase) (ended : Bool) → not (is_paid phase || is_trading phase && ended) ≡ false → is_closed phase ≡ false
closing-not-closed Closed ended e = e
closing-not-closed Trading ended e = refl
closing-not-closed Paid ended e = refl

-- ---- within a day

-- the tests of a day
abbrev day_tests : Calendar → ℕ → List Trade → List Bool
day_tests calendar day in_use = trades calendar day ∷ followed calendar (some day) ∷ begun_by (payment_day calendar (Some day)) in_use ∷ []

-- a book that is not Closed has a day, which fits any phase, and other trades if those begin in time too
pub same-day : (calendar : Calendar) (day : Day) (phase phase' : Phase) (l l' : List Trade) (n n' : ℕ) → is_closed phase ≡ false
    → (begun_by (payment_day calendar day) l ≡ true → begun_by (payment_day calendar day) l' ≡ true)
    → day_fit calendar day phase l n ≡ true → day_fit calendar day phase' l' n' ≡ true
same-day calendar None phase phase' l l' n n' c keeps e =
    let b : is_closed phase ≡ true = (both (is_closed phase) (eqb n 0) e).0 in
    let z : ◌≡◌ {A = ℕ} 0 1 = cc in absurd (omega arith)
same-day calendar (Some day) phase phase' l l' n n' c keeps e =
    let h = every_holds (day_tests calendar day l) e in
    every_of (day_tests calendar day l') (h.0, (h.1.0, (keeps h.1.1.0, tt)))

-- ---- to the next day

-- the next day trades
following-trades : (calendar : Calendar) (day : Day) (d : ℕ) → following calendar day ≡ some d → trades calendar d ≡ true
unfolding following
following-trades calendar None d e = (earliest-is-least calendar d e).trading
following-trades calendar (Some day) d e = (next-is-least calendar day d e).trading

-- the payment day of a trading day that another follows is later
payment-later : (calendar : Calendar) (d : ℕ) → followed calendar (some d) ≡ true → d ≤ payment_day calendar (Some d)
unfolding followed payment_day following
payment-later calendar d e = go (next_after calendar d) refl e
  where
    go : (next : Option ℕ) → next_after calendar d ≡ next → not (missing next) ≡ true → d ≤ day_or_0 next
    go none q e = let z : ◌≡◌ {A = ℕ} 0 1 = cc in absurd (omega arith)
    go (some next) q e = omega (arith, (next-is-least calendar d next q).later)

-- the trades on the table have begun by the next day: it is today's payment day, and without a day there are none
begun-by-next : (calendar : Calendar) (day : Day) (phase : Phase) (table : List Trade) (n d : ℕ) → day_fit calendar day phase (take n table) n ≡ true → following calendar day ≡ some d → begun_by d (take n table) ≡ true
unfolding following payment_day all_trades
begun-by-next calendar None phase table n d e q = rw (eqb-true n 0 (both (is_closed phase) (eqb n 0) e).1) refl
begun-by-next calendar (Some day) phase table n d e q =
    ap (λ last. begun_by last (take n table)) (sym (ap day_or_0 q)) ∙ (every_holds (day_tests calendar day (take n table)) e).1.1.0

pub next-day : (calendar : Calendar) (day : Day) (phase phase' : Phase) (table l' : List Trade) (n n' : ℕ) → day_fit calendar day phase (take n table) n ≡ true
    → followed calendar (following calendar day) ≡ true → Fewer (payment_day calendar (to_day (following calendar day))) l' (take n table)
    → day_fit calendar (to_day (following calendar day)) phase' l' n' ≡ true
unfolding followed
next-day calendar day phase phase' table l' n n' e h f = go (following calendar day) refl h f
  where
    go : (found : Option ℕ) → following calendar day ≡ found → followed calendar found ≡ true → Fewer (payment_day calendar (to_day found)) l' (take n table)
        → day_fit calendar (to_day found) phase' l' n' ≡ true
    go none q h f = let z : ◌≡◌ {A = ℕ} 0 1 = cc in absurd (omega arith)
    go (some d) q h f =
        every_of (day_tests calendar d l') (
          following-trades calendar day d q,
          (
            h,
            (fewer-begun d (payment-later calendar d h) f (begun-by-next calendar day phase table n d e q), tt),
          ),
        )
