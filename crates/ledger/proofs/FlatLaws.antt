-- The trades of the flat table: how many there are, which stands where, and what is counted and tested over one more of them.
-- For the proofs of the functions that read the table, and of those above them. Assumes nothing.
use Rattle.std.specs.Prelude.{◌≡◌, ℕ, zero, suc, ◌+◌, ◌*◌, ◌<◌, ◌≤◌, Bool, true, false, List, [], ◌∷◌, ◌++◌, length, get_or, take, drop}
use mathlib.Core.Path.{refl, sym, ap, ◌∙◌}
use native.Mathlib.Numerals.{add-one}
use native.Mathlib.Nat.{add-zero}
use native.Mathlib.Omega.{arith}
use native.Mathlib.Decide.{dec_lt}
use lib.ListN.{length-append, get_or-append}
use lib.Seq.{split_at, get_or_at, get_or-take, get_or-drop, ext_get_or, length-take-le}
use Rattle.rules.specs.Trades.{no_trade, total}
use Rattle.rules.specs.Fit.{all_trades}
use Rattle.money.proofs.TwoTests.{both}
use Rattle.rules.proofs.FoldLaws.{by-test}
use Rattle.rules.proofs.TradeLaws.{total-append}
use Rattle.rules.proofs.TableFit.{all_append}
use Rattle.ledger.specs.Types.{Trade}
use Rattle.ledger.specs.Flat.{trade_at, trades_to, capacity, trades_of}

-- ---- which trade stands where

pub no-trades : (table : List ℕ) → trades_to table 0 ≡ []
unfolding trades_to
no-trades table = refl

next-trade : (table : List ℕ) (n : ℕ) → trades_to table (suc n) ≡ trades_to table n ++ (trade_at table n ∷ [])
unfolding trades_to
next-trade table n = refl

pub one_more : (table : List ℕ) (n : ℕ) → trades_to table (n + 1) ≡ trades_to table n ++ (trade_at table n ∷ [])
one_more table n = rw add-one (next-trade table n)

pub length-trades : (table : List ℕ) (n : ℕ) → length (trades_to table n) ≡ n
length-trades table zero = ap length (no-trades table)
length-trades table (suc n) = rw (next-trade table n, length-append (trades_to table n) (trade_at table n ∷ [])) (omega (arith, length-trades table n))

pub trade-below : (table : List ℕ) (n i : ℕ) → i < n → get_or (trades_to table n) i no_trade ≡ trade_at table i
trade-below table zero i h = absurd (omega arith)
trade-below table (suc n) i h = rw (next-trade table n) (by (dec_lt i n) (trade-below table n i))
  where
    by : Dec (i < n) → (i < n → get_or (trades_to table n) i no_trade ≡ trade_at table i) → get_or (trades_to table n ++ (trade_at table n ∷ [])) i no_trade ≡ trade_at table i
    by (yes l) rec = get_or-append (trades_to table n) (trade_at table n ∷ []) no_trade i (omega (arith, length-trades table n)) ∙ rec l
    by (no g) rec =
        let e : i ≡ n = omega arith in
        rw e (get_or_at (trades_to table n) (trade_at table n) [] no_trade n (length-trades table n))

pub trade-at : (table : List ℕ) (i : ℕ) → i < capacity table → get_or (trades_of table) i no_trade ≡ trade_at table i
trade-at table i h = trade-below table (capacity table) i h

-- fewer trades are the first of more
pub take-fewer : (table : List ℕ) (n count : ℕ) → count ≤ n → take count (trades_to table n) ≡ trades_to table count
take-fewer table n count h = ext_get_or no_trade (take count (trades_to table n)) (trades_to table count) (long ∙ sym (length-trades table count)) same
  where
    long : length (take count (trades_to table n)) ≡ count
    long = length-take-le count (trades_to table n) (omega (arith, length-trades table n))

    same : (i : ℕ) → i < length (take count (trades_to table n)) → get_or (take count (trades_to table n)) i no_trade ≡ get_or (trades_to table count) i no_trade
    same i l =
        let k : i < count = omega (arith, long) in
        get_or-take count (trades_to table n) i no_trade k ∙ trade-below table n i (omega arith) ∙ sym (trade-below table count i k)

pub take-trades : (table : List ℕ) (count : ℕ) → count ≤ capacity table → take count (trades_of table) ≡ trades_to table count
take-trades table count h = take-fewer table (capacity table) count h

-- the trades around one of them
pub split-trades : (table : List ℕ) (n i : ℕ) → i < n → trades_to table n ≡ trades_to table i ++ (trade_at table i ∷ drop (suc i) (trades_to table n))
split-trades table n i h =
    let l : i < length (trades_to table n) = omega (arith, length-trades table n) in
    let e = split_at (trades_to table n) i no_trade l in
    rw (take-fewer table n i (omega arith), trade-below table n i h) at e

-- tables that agree from a trade on agree on it
pub same-trade : (s t : List ℕ) (i : ℕ) → length s ≡ length t → i < capacity t → drop i (trades_of s) ≡ drop i (trades_of t) → trade_at s i ≡ trade_at t i
same-trade s t i e h d =
    sym (trade-at s i (omega arith)) ∙ first_of s ∙ ap (λ (l : List Trade). get_or l 0 no_trade) d ∙ sym (first_of t) ∙ trade-at t i h
  where
    first_of : (table : List ℕ) → get_or (trades_of table) i no_trade ≡ get_or (drop i (trades_of table)) 0 no_trade
    first_of table = sym (rw add-zero at (get_or-drop i (trades_of table) 0 no_trade))

-- ---- one more trade

pub total-none : (f : Trade → ℕ) (table : List ℕ) → total f (trades_to table 0) ≡ 0
unfolding total
total-none f table = rw no-trades

pub total-more : (f : Trade → ℕ) (table : List ℕ) (i : ℕ) → total f (trades_to table (i + 1)) ≡ total f (trades_to table i) + f (trade_at table i)
unfolding total
total-more f table i = rw (one_more table i, total-append f (trades_to table i) (trade_at table i ∷ [])) (omega arith)

-- a bound of each bounds the sum
module _ (f : Trade → ℕ) (table : List ℕ) (most : ℕ) where
  pub total_at_most : (n : ℕ) → ((i : ℕ) → i < n → f (trade_at table i) ≤ most) → total f (trades_to table n) ≤ n * most
  total_at_most zero h = omega (arith, total-none f table)
  total_at_most (suc n) h = omega (arith, rw add-one at (total-more f table n), h n (omega arith), total_at_most n (λ i l. h i (omega arith)))

-- ---- a test of each trade

pub all_none : (test : Trade → Bool) (table : List ℕ) → all_trades test (trades_to table 0) ≡ true
unfolding all_trades
all_none test table = rw no-trades

pub all_more : (test : Trade → Bool) (table : List ℕ) (i : ℕ) → all_trades test (trades_to table i) ≡ true → test (trade_at table i) ≡ true → all_trades test (trades_to table (i + 1)) ≡ true
all_more test table i h k = rw (one_more table i) (all_append test (trades_to table i) (trade_at table i) h k)

of-all : (test : Trade → Bool) (a : List Trade) (t : Trade) (b : List Trade) → all_trades test (a ++ (t ∷ b)) ≡ true → test t ≡ true
unfolding all_trades
of-all test [] t b h = (both (test t) (all_trades test b) h).0
of-all test (x ∷ a) t b h = of-all test a t b (both (test x) (all_trades test (a ++ (t ∷ b))) h).1

pub all-below : (test : Trade → Bool) (table : List ℕ) (n i : ℕ) → i < n → all_trades test (trades_to table n) ≡ true → test (trade_at table i) ≡ true
all-below test table n i h k =
    of-all test (trades_to table i) (trade_at table i) (drop (suc i) (trades_to table n)) (ap (all_trades test) (sym (split-trades table n i h)) ∙ k)

pub all-fails : (test : Trade → Bool) (table : List ℕ) (n i : ℕ) → i < n → test (trade_at table i) ≡ false → all_trades test (trades_to table n) ≡ false
all-fails test table n i h k =
    by-test (λ x. x ≡ false) (all_trades test (trades_to table n)) (λ e. sym (all-below test table n i h e) ∙ k) (λ e. refl)
