-- Packing: how the trades with something left move to the front, and how the slots behind them are freed.
-- For the loops of packing, and for their composition. Assumes nothing.
use Rattle.std.specs.Prelude.{◌≡◌, ℕ, zero, suc, ◌+◌, ◌-◌, ◌<◌, ◌≤◌, List, [], ◌∷◌, ◌++◌, length, take, drop, set, replicate}
use mathlib.Core.Path.{refl, sym, ap, ◌∙◌}
use mathlib.Core.List.{append_assoc, append-nil}
use native.Mathlib.Numerals.{add-one}
use native.Mathlib.Omega.{arith}
use lib.ListN.{length-append, length-replicate, take-append-drop, replicate-append-replicate}
use lib.Seq.{take-suc-set, drop-set-lt, drop-drop, length-take-le}
use Rattle.rules.specs.Trades.{no_trade, leaves, remaining, packed, over}
use Rattle.rules.proofs.TradeLaws.{remaining-append}
use Rattle.ledger.specs.Types.{Trade}
use Rattle.ledger.specs.Flat.{HasSlots, trade_at, trades_to, capacity, trades_of}
use Rattle.ledger.proofs.FlatLaws.{no-trades, one_more, length-trades, same-trade}
use Rattle.ledger.proofs.RedemptionLaws.{over-set}

-- ---- of i trades of s passed, those with something left stand in front of t, and those not passed stand where they stood
pub record Summary (s : List ℕ) (count : ℕ) (t : List ℕ) (kept i : ℕ) : Type 0 where
  pub low : kept ≤ i
  pub high : i ≤ count
  pub room : HasSlots s count
  pub long : length t ≡ length s
  pub front : take kept (trades_of t) ≡ remaining (trades_to s i)
  pub rest : drop i (trades_of t) ≡ drop i (trades_of s)

pub none_passed : (s : List ℕ) (count : ℕ) → HasSlots s count → Summary s count s 0 0
unfolding remaining
none_passed s count h = record { low = omega arith; high = omega arith; room = h; long = refl; front = rw (no-trades s); rest = refl }

drop-one-more : (a b : List Trade) (i : ℕ) → drop i a ≡ drop i b → drop (i + 1) a ≡ drop (i + 1) b
drop-one-more a b i h = sym (drop-drop 1 i a) ∙ ap (drop 1) h ∙ drop-drop 1 i b

remaining-one-none : (trade : Trade) → trade.sheets.0 ≡ 0 → remaining (trade ∷ []) ≡ []
unfolding remaining
remaining-one-none trade h = rw h

remaining-one-some : (trade : Trade) → (trade.sheets.0 ≡ 0 → ⊥) → remaining (trade ∷ []) ≡ trade ∷ []
unfolding remaining
remaining-one-some trade h = by trade.sheets.0 h
  where
    by : (n : ℕ) → (n ≡ 0 → ⊥) → leaves n trade [] ≡ trade ∷ []
    by zero h = absurd (h refl)
    by (suc n) h = refl

module _ (s : List ℕ) (count : ℕ) (t : List ℕ) (kept i : ℕ) (g : Summary s count t kept i) (l : i < count) where
  here : trade_at t i ≡ trade_at s i
  here = same-trade t s i g.long (omega (arith, g.room)) g.rest

  next : remaining (trades_to s (i + 1)) ≡ remaining (trades_to s i) ++ remaining (trade_at t i ∷ [])
  next = rw (one_more s i, here) (remaining-append (trades_to s i) (trade_at s i ∷ []))

  pub passed-by : (trade_at t i).sheets.0 ≡ 0 → Summary s count t kept (i + 1)
  passed-by z =
      record {
        low = omega (arith, g.low);
        high = omega arith;
        room = g.room;
        long = g.long;
        front = g.front ∙ sym (next ∙ rw (remaining-one-none (trade_at t i) z) (append-nil (remaining (trades_to s i))));
        rest = drop-one-more (trades_of t) (trades_of s) i g.rest;
      }

  pub moved_up : (u : List ℕ) → length u ≡ length t → trades_of u ≡ set (trades_of t) kept (trade_at t i) → ((trade_at t i).sheets.0 ≡ 0 → ⊥) → Summary s count u (kept + 1) (i + 1)
  moved_up u e m z =
      let inside : kept < length (trades_of t) = omega (arith, length-trades t (capacity t), g.low, g.room, g.long) in
      record {
        low = omega (arith, g.low);
        high = omega arith;
        room = g.room;
        long = e ∙ g.long;
        front = rw (m, add-one kept) (take-suc-set (trades_of t) kept (trade_at t i) inside ∙ rw g.front (sym (next ∙ rw (remaining-one-some (trade_at t i) z))));
        rest = rw m (drop-set-lt (i + 1) (trades_of t) kept (trade_at t i) (omega (arith, g.low)) ∙ drop-one-more (trades_of t) (trades_of s) i g.rest);
      }

-- ---- slots freed from a place on

abbrev pub freed : (from i : ℕ) → List Trade → List Trade
freed from i l = over i (take from l ++ replicate (i - from) no_trade) l

pub none-freed : (from : ℕ) (l : List Trade) → l ≡ freed from from l
none-freed from l =
    let none : from - from ≡ 0 = omega arith in
    rw (none, append-nil (take from l)) (sym (take-append-drop from l))

pub one-freed : (from i : ℕ) (l : List Trade) → from ≤ i → i < length l → set (freed from i l) i no_trade ≡ freed from (i + 1) l
one-freed from i l h k =
    over-set i (take from l ++ replicate (i - from) no_trade) l no_trade long k
    ∙ ap (λ (front : List Trade). over (i + 1) front l) (append_assoc (take from l) (replicate (i - from) no_trade) (no_trade ∷ []) ∙ more)
  where
    long : length (take from l ++ replicate (i - from) no_trade) ≡ i
    long = rw (length-append (take from l) (replicate (i - from) no_trade), length-take-le from l (omega arith), length-replicate (i - from) no_trade) (omega arith)

    more : take from l ++ (replicate (i - from) no_trade ++ (no_trade ∷ [])) ≡ take from l ++ replicate (i + 1 - from) no_trade
    more =
        let e : i - from + 1 ≡ i + 1 - from = omega arith in
        ap (λ (back : List Trade). take from l ++ back) (replicate-append-replicate (i - from) 1 no_trade ∙ ap (λ (n : ℕ). replicate n no_trade) e)

pub all-freed : (from to : ℕ) (l : List Trade) → freed from to l ≡ take from l ++ (replicate (to - from) no_trade ++ drop to l)
all-freed from to l = append_assoc (take from l) (replicate (to - from) no_trade) (drop to l)

-- ---- summary and then freed is packed

pub moved-up-freed : (count kept : ℕ) (summary left l : List Trade) → kept ≤ length summary → take kept summary ≡ left → drop count summary ≡ drop count l
    → take kept summary ++ (replicate (count - kept) no_trade ++ drop count summary) ≡ packed count left l
moved-up-freed count kept summary left l h front rest =
    let e : kept ≡ length left = sym (length-take-le kept summary h) ∙ ap length front in
    rw (front, rest, e)
