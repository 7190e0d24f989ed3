-- What a store into the flat table changes: one number of a trade, or its five numbers in a row, is one trade set.
-- For put_sheets and put_trade, and for HeldLaws and TableLaws. Assumes nothing.
use Rattle.std.specs.Prelude.{◌≡◌, ℕ, suc, ◌+◌, ◌*◌, ◌/◌, ◌<◌, ◌≤◌, ◌⊎◌, List, [], ◌∷◌, ◌++◌, length, get_or, take, drop, set}
use mathlib.Core.Path.{refl, sym, ap, ◌∙◌}
use mathlib.Core.Logic.{inl, inr, ⊎_elim}
use native.Mathlib.Numerals.{add-one}
use native.Mathlib.Nat.{add-zero}
use native.Mathlib.Omega.{arith}
use native.Mathlib.Decide.{dec_lt, ℕ_discrete}
use lib.ListN.{length-append, length-set, get_or-append}
use lib.Seq.{sets, length-sets, get_or-set_same, get_or-set_other, get_or-append-add, sets-eq, ext_get_or, length-take-le}
use Rattle.rules.specs.Trades.{no_trade, with_sheets}
use Rattle.ledger.specs.Types.{Trade}
use Rattle.ledger.specs.Flat.{HasSlot, width, lower, upper, trade_at, capacity, trades_of}
use Rattle.ledger.proofs.FlatLaws.{length-trades, trade-at}

-- ---- one store

-- trades with the same five numbers are the same
pub same-words : (s t : List ℕ) (i j : ℕ) → ((k : ℕ) → k < width → get_or s (i * width + k) 0 ≡ get_or t (j * width + k) 0) → trade_at s i ≡ trade_at t j
unfolding trade_at
same-words s t i j h =
    let z : get_or s (i * width) 0 ≡ get_or t (j * width) 0 = simp add-zero at (h 0 (omega arith)) in
    rw (z, h 1 (omega arith), h 2 (omega arith), h 3 (omega arith), h 4 (omega arith))

-- where one trade is another and the rest are the same, that trade was set
trade-set : (s t : List ℕ) (place : ℕ) (trade : Trade) → length s ≡ length t → trade_at s place ≡ trade → ((i : ℕ) → (i ≡ place → ⊥) → trade_at s i ≡ trade_at t i) → trades_of s ≡ set (trades_of t) place trade
trade-set s t place trade e h k =
    ext_get_or no_trade (trades_of s) (set (trades_of t) place trade) (length-trades s (capacity s) ∙ ap (λ (n : ℕ). n / width) e ∙ sym long) (λ i l. by i (omega (arith, length-trades s (capacity s))) (ℕ_discrete i place))
  where
    long : length (set (trades_of t) place trade) ≡ capacity t
    long = length-set (trades_of t) place trade ∙ length-trades t (capacity t)

    by : (i : ℕ) → i < capacity s → Dec (i ≡ place) → get_or (trades_of s) i no_trade ≡ get_or (set (trades_of t) place trade) i no_trade
    by i l (yes q) = rw q (trade-at s place (omega arith) ∙ h ∙ sym (get_or-set_same (trades_of t) place trade no_trade (omega (arith, length-trades t (capacity t)))))
    by i l (no q) = trade-at s i l ∙ k i q ∙ sym (get_or-set_other (trades_of t) place i trade no_trade q ∙ trade-at t i (omega arith))

sheets-here : (table : List ℕ) (place count : ℕ) → HasSlot table place → trade_at (set table (place * width + 1) count) place ≡ with_sheets count (trade_at table place)
unfolding trade_at
sheets-here table place count h =
    let other : (k : ℕ) → (k ≡ place * width + 1 → ⊥) → get_or (set table (place * width + 1) count) k 0 ≡ get_or table k 0 = λ k q. get_or-set_other table (place * width + 1) k count 0 q in
    rw (
      get_or-set_same table (place * width + 1) count 0 (omega arith),
      other (place * width) (λ z. omega arith),
      other (place * width + 2) (λ z. omega arith),
      other (place * width + 3) (λ z. omega arith),
      other (place * width + 4) (λ z. omega arith),
    )

pub sheets-put : (table : List ℕ) (place count : ℕ) → HasSlot table place → trades_of (set table (place * width + 1) count) ≡ set (trades_of table) place (with_sheets count (trade_at table place))
sheets-put table place count h =
    trade-set (set table (place * width + 1) count) table place (with_sheets count (trade_at table place)) (length-set table (place * width + 1) count) (sheets-here table place count h)
    (λ i q. same-words (set table (place * width + 1) count) table i i (λ k l. get_or-set_other table (place * width + 1) (i * width + k) count 0 (λ z. q (omega arith))))

-- ---- five stores in a row

pub get_or-sets-outside : (vs l : List ℕ) (i j : ℕ) → (j < i) ⊎ (i + length vs ≤ j) → get_or (sets l i vs) j 0 ≡ get_or l j 0
get_or-sets-outside [] l i j h = refl
get_or-sets-outside (a ∷ vs) l i j h =
    get_or-sets-outside vs (set l i a) (suc i) j (⊎_elim (λ k. inl (omega arith)) (λ k. inr (omega arith)) h)
    ∙ get_or-set_other l i j a 0 (λ e. ⊎_elim (λ k. omega arith) (λ k. omega arith) h)

pub get_or-sets-inside : (vs l : List ℕ) (i k : ℕ) → i + length vs ≤ length l → k < length vs → get_or (sets l i vs) (i + k) 0 ≡ get_or vs k 0
get_or-sets-inside vs l i k h q =
    let front : length (take i l) ≡ i = length-take-le i l (omega arith) in
    let rest : List ℕ = drop (i + length vs) l in
    rw (sets-eq vs l i h)
    (get_or-append (take i l ++ vs) rest 0 (i + k) (omega (arith, length-append (take i l) vs))
    ∙ ap (λ (m : ℕ). get_or (take i l ++ vs) (m + k) 0) (sym front)
    ∙ get_or-append-add (take i l) vs k 0)

-- two numbers of 32 bits in one
abbrev pub pair : (low high : ℕ) → ℕ
pair low high = low + 4294967296 * high

abbrev words : Trade → List ℕ
words trade = trade.contract.0 ∷ trade.sheets.0 ∷ pair trade.price.0 trade.fallback.0 ∷ pair trade.first trade.due ∷ trade.product ∷ []

-- the prices and days of a trade have 32 bits
pub record Narrow (trade : Trade) : Type 0 where
  pub price : trade.price.0 < 4294967296
  pub fallback : trade.fallback.0 < 4294967296
  pub first : trade.first < 4294967296
  pub due : trade.due < 4294967296

pub lower-pair : (low high : ℕ) → low < 4294967296 → lower (pair low high) ≡ low
lower-pair low high h = omega arith

pub upper-pair : (low high : ℕ) → low < 4294967296 → high < 4294967296 → upper (pair low high) ≡ high
upper-pair low high h k = omega arith

trade-here : (table : List ℕ) (place : ℕ) (trade : Trade) → HasSlot table place → Narrow trade → trade_at (sets table (place * width) (words trade)) place ≡ trade
unfolding trade_at
trade-here table place trade h n =
    let word : (k : ℕ) → k < width → get_or (sets table (place * width) (words trade)) (place * width + k) 0 ≡ get_or (words trade) k 0 = λ k l. get_or-sets-inside (words trade) table (place * width) k (omega arith) l in
    rw (
      simp add-zero at (word 0 (omega arith)),
      word 1 (omega arith),
      word 2 (omega arith),
      word 3 (omega arith),
      word 4 (omega arith),
      lower-pair trade.price.0 trade.fallback.0 n.price,
      upper-pair trade.price.0 trade.fallback.0 n.price n.fallback,
      lower-pair trade.first trade.due n.first,
      upper-pair trade.first trade.due n.first n.due,
    )

apart : (place i k : ℕ) → (i ≡ place → ⊥) → k < width → (i * width + k < place * width) ⊎ (place * width + width ≤ i * width + k)
apart place i k q l = by (dec_lt i place)
  where
    by : Dec (i < place) → (i * width + k < place * width) ⊎ (place * width + width ≤ i * width + k)
    by (yes b) = inl (omega arith)
    by (no b) = inr (omega arith)

words-put : (table : List ℕ) (place : ℕ) (trade : Trade) → HasSlot table place → Narrow trade → trades_of (sets table (place * width) (words trade)) ≡ set (trades_of table) place trade
words-put table place trade h n =
    trade-set (sets table (place * width) (words trade)) table place trade (length-sets table (place * width) (words trade)) (trade-here table place trade h n)
    (λ i q. same-words (sets table (place * width) (words trade)) table i i (λ k l. get_or-sets-outside (words trade) table (place * width) (i * width + k) (apart place i k q l)))

-- the five stores as the code makes them
abbrev pub stores : List ℕ → ℕ → Trade → List ℕ
stores table at trade =
    set
    (set
    (set (set (set table at trade.contract.0) (at + 1) trade.sheets.0) (at + 2) (pair trade.price.0 trade.fallback.0))
    (at + 3)
    (pair trade.first trade.due))
    (at + 4)
    trade.product

in_a_row : (table : List ℕ) (at : ℕ) (trade : Trade) → stores table at trade ≡ sets table at (words trade)
in_a_row table at trade =
    let by_2 : at + 2 ≡ suc (suc at) = omega arith in
    let by-3 : at + 3 ≡ suc (suc (suc at)) = omega arith in
    let by_4 : at + 4 ≡ suc (suc (suc (suc at))) = omega arith in
    rw (add-one at, by_2, by-3, by_4)

pub trade-put : (table : List ℕ) (place : ℕ) (trade : Trade) → HasSlot table place → Narrow trade → trades_of (stores table (place * width) trade) ≡ set (trades_of table) place trade
trade-put table place trade h n = ap trades_of (in_a_row table (place * width) trade) ∙ words-put table place trade h n

-- the numbers behind it are as they were
pub behind : (table : List ℕ) (place : ℕ) (trade : Trade) (k : ℕ) → place * width + width ≤ k → get_or (stores table (place * width) trade) k 0 ≡ get_or table k 0
behind table place trade k h = ap (λ (t : List ℕ). get_or t k 0) (in_a_row table (place * width) trade) ∙ get_or-sets-outside (words trade) table (place * width) k (inr h)
