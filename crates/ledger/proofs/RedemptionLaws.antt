-- Redemption: what a trade in use may be relied on for, the bounds of what is paid, and how the table is changed trade by trade.
-- For the functions that plan and write redemptions, and for those above them. Assumes nothing.
use Rattle.std.specs.Prelude.{◌≡◌, ℕ, zero, suc, ◌+◌, ◌-◌, ◌<◌, ◌≤◌, true, leb, List, [], ◌∷◌, ◌++◌, map, length, get_or, drop, set}
use mathlib.Core.Path.{sym, ap, ◌∙◌}
use mathlib.Core.List.{map-append}
use native.Mathlib.Numerals.{add-one}
use native.Mathlib.Omega.{arith}
use borrow.Author.Tests.{leb-true, le-leb}
use lib.ListN.{length-map}
use lib.Seq.{drop_at, drop-cons, append_snoc, set_at}
use Rattle.money.specs.Limits.{trade_limit, price_limit}
use Rattle.money.specs.declared.units.Sheets.{Sheets}
use Rattle.money.specs.declared.units.Ticks.{Ticks}
use Rattle.money.specs.Units.{sheets}
use Rattle.money.proofs.Bounds.{redemption-bound}
use Rattle.rules.specs.Limits.{product_limit}
use Rattle.rules.specs.Trades.{no_trade, total, redeemed, fallback_amount, emptied, maturing, maturity_amount, matured, over}
use Rattle.rules.specs.Fit.{trade_fit}
use Rattle.rules.proofs.FoldLaws.{every_holds}
use Rattle.rules.proofs.TradeLaws.{maturing-le}
use Rattle.ledger.specs.Types.{Trade}
use Rattle.ledger.specs.Flat.{trade_at, trades_to, capacity, trades_of, Kept, Redeemable}
use Rattle.ledger.specs.Redemption.{amount_bound, IsWithin}
use Rattle.ledger.proofs.FlatLaws.{no-trades, one_more, length-trades, same-trade, total_at_most, all-below}

-- ---- a trade in use

pub record Within (trade : Trade) : Type 0 where
  pub sheets : trade.sheets.0 ≤ trade_limit
  pub price : trade.price.0 ≤ price_limit
  pub fallback : trade.fallback.0 ≤ price_limit
  pub product : trade.product ≤ product_limit

pub within_of : (trade : Trade) → trade_fit trade ≡ true → Within trade
within_of trade h =
    let tests = every_holds _ h in
    record {
      sheets = leb-true trade.sheets.0 trade_limit tests.0;
      price = leb-true trade.price.0 price_limit tests.1.0;
      fallback = leb-true trade.fallback.0 price_limit tests.1.1.0;
      product = leb-true trade.product product_limit tests.1.1.1.0;
    }

pub kept-within : (table : List ℕ) (count : ℕ) → Kept table count → (i : ℕ) → i < count → Within (trade_at table i)
kept-within table count k i l = within_of (trade_at table i) (all-below trade_fit table count i l k.within)

module _ (table : List ℕ) (count payment : ℕ) (r : Redeemable table count payment) where
  pub trade-within : (i : ℕ) → i < count → Within (trade_at table i)
  trade-within = kept-within table count r.kept

  pub begun-before : (i : ℕ) → i < count → (trade_at table i).first ≤ payment
  begun-before i l = leb-true (trade_at table i).first payment (all-below (λ trade. leb trade.first payment) table count i l r.begun)

  -- what is paid for a trade, and for all of them

  redeemed-at-most : (q : ℕ) (price : Ticks) (i : ℕ) → q ≤ trade_limit → price.0 ≤ price_limit → redeemed payment q price (trade_at table i) ≤ 106205500000000
  redeemed-at-most q price i h k =
      omega (arith, redemption-bound (sheets q) price (payment - (trade_at table i).first) k (omega (arith, r.term)))

  pub part-within : (i : ℕ) → i < count → (part : Sheets × Ticks) → IsWithin (trade_at table i) part
      → (part.0.0 ≤ trade_limit) × (part.1.0 ≤ price_limit) × (redeemed payment part.0.0 part.1 (trade_at table i) ≤ 106205500000000)
  part-within i l part h =
      let few : part.0.0 ≤ trade_limit = omega (arith, h, (trade-within i l).sheets) in
      (few, h.1, redeemed-at-most part.0.0 part.1 i few h.1)

  pub fallback-at-most : (i : ℕ) → i < count → fallback_amount payment (trade_at table i) ≤ 106205500000000
  fallback-at-most i l = redeemed-at-most (trade_at table i).sheets.0 (trade_at table i).fallback i (trade-within i l).sheets (trade-within i l).fallback

  pub maturing-at-most : (today i : ℕ) → i < count → maturing today (trade_at table i) ≤ trade_limit
  maturing-at-most today i l = omega (arith, maturing-le today (trade_at table i), (trade-within i l).sheets)

  pub maturity-at-most : (today i : ℕ) → i < count → maturity_amount today payment (trade_at table i) ≤ 106205500000000
  maturity-at-most today i l = redeemed-at-most (maturing today (trade_at table i)) (trade_at table i).price i (maturing-at-most today i l) (trade-within i l).price

  pub fallback-bound : total (fallback_amount payment) (trades_to table count) ≤ amount_bound
  fallback-bound = omega (arith, total_at_most (fallback_amount payment) table 106205500000000 count fallback-at-most, r.kept.few)

  pub maturity-bound : (today : ℕ) → total (maturity_amount today payment) (trades_to table count) ≤ amount_bound
  maturity-bound today = omega (arith, total_at_most (maturity_amount today payment) table 106205500000000 count (maturity-at-most today), r.kept.few)

-- ---- every trade is due by the last day of 32 bits

pub matured-due : (by : ℕ) (trade : Trade) → trade.due ≤ by → matured by trade ≡ emptied trade
matured-due by trade h =
    let none : trade.sheets.0 - trade.sheets.0 ≡ 0 = omega arith in
    rw (le-leb trade.due by h, none)

due-in-32-bits : (table : List ℕ) (i : ℕ) → (trade_at table i).due ≤ 4294967295
unfolding trade_at
due-in-32-bits table i = omega arith

pub all-due : (table : List ℕ) (n : ℕ) → map (matured 4294967295) (trades_to table n) ≡ map emptied (trades_to table n)
all-due table zero = rw (no-trades table)
all-due table (suc n) =
    rw (← add-one n, one_more table n, map-append (matured 4294967295) (trades_to table n) (trade_at table n ∷ []), map-append emptied (trades_to table n) (trade_at table n ∷ []), all-due table n, matured-due 4294967295 (trade_at table n) (due-in-32-bits table n))

-- ---- trades changed one by one

pub over-set : (i : ℕ) (changed l : List Trade) (trade : Trade) → length changed ≡ i → i < length l → set (over i changed l) i trade ≡ over (i + 1) (changed ++ (trade ∷ [])) l
over-set i changed l trade e h =
    rw (add-one, drop-cons l i no_trade)
    (set_at changed (get_or l i no_trade) (drop (suc i) l) trade i e ∙ sym (append_snoc changed trade (drop (suc i) l)))

pub none-changed : (f : Trade → Trade) (s : List ℕ) → trades_of s ≡ over 0 (map f (trades_to s 0)) (trades_of s)
none-changed f s = rw (no-trades s)

-- where the first trades are changed and the next is set to what the change makes of it, one more is changed
pub map-one-more : (f : Trade → Trade) (s t u : List ℕ) (i : ℕ) → i < capacity s → length t ≡ length s
    → trades_of t ≡ over i (map f (trades_to s i)) (trades_of s) → trades_of u ≡ set (trades_of t) i (f (trade_at t i))
    → trades_of u ≡ over (i + 1) (map f (trades_to s (i + 1))) (trades_of s)
map-one-more f s t u i h e k m =
    m ∙ rw (here, k, one_more s i, map-append f (trades_to s i) (trade_at s i ∷ []))
    (over-set i (map f (trades_to s i)) (trades_of s) (f (trade_at s i)) long (omega (arith, length-trades s (capacity s))))
  where
    long : length (map f (trades_to s i)) ≡ i
    long = length-map (trades_to s i) f ∙ length-trades s i

    here : trade_at t i ≡ trade_at s i
    here = same-trade t s i e h (ap (drop i) k ∙ drop_at (map f (trades_to s i)) (drop i (trades_of s)) i long)
