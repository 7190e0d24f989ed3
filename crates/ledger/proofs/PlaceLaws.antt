-- Where a contract's trade stands: the first that has the contract, and what is read and taken off is that trade's.
-- For trades.rt, whose contracts_differ looks for each contract among the trades before it, follows chains or sorts them all, and for the
-- events of one contract. Assumes nothing.
use Rattle.std.specs.Prelude.{◌≡◌, ℕ, zero, suc, ◌+◌, ◌-◌, ◌<◌, ◌≤◌, Bool, true, false, cond, not, ◌&&◌, List, [], ◌∷◌, ◌++◌, length, take, drop, set, Option, is_some, IfSome, MatchOption}
use mathlib.Core.Path.{refl, sym, ap, ◌∙◌}
use mathlib.Core.Bool.{false≢true}
use mathlib.Core.List.{map-append}
use native.Mathlib.Numerals.{add-one}
use native.Mathlib.Omega.{arith}
use native.Mathlib.Decide.{ℕ_discrete}
use borrow.Author.Tests.{eq-eqb, ne_eqb}
use lib.ListN.{length-set}
use lib.Seq.{take-suc-set, set_at}
use Rattle.rules.specs.Trades.{same, with_sheets, on_table, trade_of, take_off, differ}
use Rattle.rules.proofs.FoldLaws.{not-here}
use Rattle.rules.specs.Folds.{all_below}
use Rattle.std.proofs.Math.Bool.{and-false}
use Rattle.ledger.specs.Types.{Contract, Trade, Some, None}
use Rattle.sort.specs.Sort.{among, all_differ}
use Rattle.ledger.specs.Flat.{StandsAt, trade_at, trades_to, contract_numbers}
use Rattle.ledger.proofs.FlatLaws.{no-trades, one_more, length-trades, split-trades}

-- ---- a contract among more trades

pub on-table-append : (c : Contract) (a b : List Trade) → on_table c (a ++ b) ≡ cond (on_table c a) true (on_table c b)
unfolding on_table
on-table-append c [] b = refl
on-table-append c (t ∷ a) b = by (same t.contract c) (on-table-append c a b)
  where
    by : (x : Bool) → on_table c (a ++ b) ≡ cond (on_table c a) true (on_table c b) → cond x true (on_table c (a ++ b)) ≡ cond (cond x true (on_table c a)) true (on_table c b)
    by true h = refl
    by false h = h

-- where it is not among the first, its trade is among the others
trade-later : (c : Contract) (a b : List Trade) → on_table c a ≡ false → trade_of c (a ++ b) ≡ trade_of c b
unfolding on_table trade_of
trade-later c [] b h = refl
trade-later c (t ∷ a) b h =
    let off = not-here false (same t.contract c) (on_table c a) h in
    rw off.0 (trade-later c a b off.1)

take-off-later : (c : Contract) (q : ℕ) (a b : List Trade) → on_table c a ≡ false → take_off c q (a ++ b) ≡ a ++ take_off c q b
unfolding on_table take_off
take-off-later c q [] b h = refl
take-off-later c q (t ∷ a) b h =
    let off = not-here false (same t.contract c) (on_table c a) h in
    rw off.0 (ap (λ (l : List Trade). t ∷ l) (take-off-later c q a b off.1))

-- ---- a contract in the flat table

pub off-none : (c : Contract) (table : List ℕ) → on_table c (trades_to table 0) ≡ false
unfolding on_table
off-none c table = rw (no-trades table)

pub off-one-more : (c : Contract) (table : List ℕ) (i : ℕ) → on_table c (trades_to table i) ≡ false → same (trade_at table i).contract c ≡ false → on_table c (trades_to table (i + 1)) ≡ false
unfolding on_table
off-one-more c table i h k = rw (one_more table i, on-table-append c (trades_to table i) (trade_at table i ∷ []), h, k)

-- a contract that differs from every trade's is not among them
pub off-below : (c : Contract) (table : List ℕ) (i : ℕ) → ((place : ℕ) → place < i → same (trade_at table place).contract c ≡ false) → on_table c (trades_to table i) ≡ false
off-below c table zero h = off-none c table
off-below c table (suc i) h = rw (sym (add-one i)) (off-one-more c table i (off-below c table i (λ place l. h place (omega (arith, l)))) (h i (omega arith)))

true-after : (x : Bool) → cond x true true ≡ true
true-after true = refl
true-after false = refl

-- one of them that is the same stands among them
pub on_below : (c : Contract) (table : List ℕ) (count place : ℕ) → place < count → same (trade_at table place).contract c ≡ true → on_table c (trades_to table count) ≡ true
unfolding on_table
on_below c table count place l e =
    ap (on_table c) (split-trades table count place l)
    ∙ on-table-append c (trades_to table place) (trade_at table place ∷ drop (suc place) (trades_to table count))
    ∙ rw e (true-after (on_table c (trades_to table place)))

-- a search over the places finds the first
pub found-first : (c : Contract) (table : List ℕ) (count : ℕ) (found : Option ℕ)
    → MatchOption found ((k : ℕ) → 0 ≤ k → k < count → same (trade_at table k).contract c ≡ false)
    (λ i. (0 ≤ i) × (i < count) × (same (trade_at table i).contract c ≡ true) × ((k : ℕ) → 0 ≤ k → k < i → same (trade_at table k).contract c ≡ false))
    → (is_some found ≡ on_table c (trades_to table count)) × IfSome found (StandsAt table count c)
found-first c table count None none = (sym (off-below c table count (λ k l. none k (omega arith) l)), tt)
found-first c table count (Some i) first =
    (sym (on_below c table count i first.1 first.2), record { below = first.1; here = first.2; first = off-below c table i (λ k l. first.3 k (omega arith) l) })

-- ---- the trade at a contract's place

module _ (table : List ℕ) (count place : ℕ) (c : Contract) (stands : StandsAt table count c place) where
  split : trades_to table count ≡ trades_to table place ++ (trade_at table place ∷ drop (suc place) (trades_to table count))
  split = split-trades table count place stands.below

  pub on-table-there : on_table c (trades_to table count) ≡ true
  on-table-there = on_below c table count place stands.below stands.here

  pub trade-there : trade_of c (trades_to table count) ≡ trade_at table place
  unfolding trade_of
  trade-there =
      ap (trade_of c) split
      ∙ trade-later c (trades_to table place) (trade_at table place ∷ drop (suc place) (trades_to table count)) stands.first
      ∙ rw stands.here refl

  pub take-off-there : (q : ℕ) → take_off c q (trades_to table count) ≡ set (trades_to table count) place (with_sheets ((trade_at table place).sheets.0 - q) (trade_at table place))
  unfolding take_off
  take-off-there q =
      let others = drop (suc place) (trades_to table count) in
      let less = with_sheets ((trade_at table place).sheets.0 - q) (trade_at table place) in
      ap (take_off c q) split
      ∙ take-off-later c q (trades_to table place) (trade_at table place ∷ others) stands.first
      ∙ rw stands.here refl
      ∙ sym (set_at (trades_to table place) (trade_at table place) others less place (length-trades table place))
      ∙ ap (λ (l : List Trade). set l place less) (sym split)

-- ---- contracts that differ

same-swapped : (a b : Contract) → same a b ≡ same b a
same-swapped a b = by (ℕ_discrete a.0 b.0)
  where
    by : Dec (a.0 ≡ b.0) → same a b ≡ same b a
    by (yes e) = eq-eqb a.0 b.0 e ∙ sym (eq-eqb b.0 a.0 (sym e))
    by (no other) = ne_eqb a.0 b.0 other ∙ sym (ne_eqb b.0 a.0 (λ e. other (sym e)))

false-after : (x : Bool) → cond x false false ≡ false
false-after true = refl
false-after false = refl

-- a contract that stands before its trade stands twice
pub differ-not : (a : List Trade) (t : Trade) (b : List Trade) → on_table t.contract a ≡ true → differ (a ++ (t ∷ b)) ≡ false
unfolding differ on_table
differ-not [] t b h = absurd (false≢true h)
differ-not (x ∷ a) t b h = by (same x.contract t.contract) refl h (differ-not a t b)
  where
    twice : same x.contract t.contract ≡ true → on_table x.contract (a ++ (t ∷ b)) ≡ true
    twice k = on-table-append x.contract a (t ∷ b) ∙ ap (cond (on_table x.contract a) true) (ap (λ (z : Bool). cond z true (on_table x.contract b)) (same-swapped t.contract x.contract ∙ k)) ∙ true-after (on_table x.contract a)

    by : (y : Bool) → same x.contract t.contract ≡ y → cond y true (on_table t.contract a) ≡ true → (on_table t.contract a ≡ true → differ (a ++ (t ∷ b)) ≡ false)
        → cond (on_table x.contract (a ++ (t ∷ b))) false (differ (a ++ (t ∷ b))) ≡ false
    by true e k rec = rw (twice e)
    by false e k rec = rw (rec k) (false-after (on_table x.contract (a ++ (t ∷ b))))

pub differ-none : (table : List ℕ) → differ (trades_to table 0) ≡ true
unfolding differ
differ-none table = rw (no-trades table)

-- one trade more differs where its contract is not on the table
differ-more : (l : List Trade) (t : Trade) → differ (l ++ (t ∷ [])) ≡ (differ l && not (on_table t.contract l))
unfolding differ on_table
differ-more [] t = refl
differ-more (x ∷ l) t =
    rw (on-table-append x.contract l (t ∷ []), same-swapped t.contract x.contract, differ-more l t) (by (on_table x.contract l) (same x.contract t.contract))
  where
    by : (a b : Bool)
        → cond (cond a true (cond b true false)) false (differ l && not (on_table t.contract l)) ≡ (cond a false (differ l) && not (cond b true (on_table t.contract l)))
    by true b = refl
    by false true = sym (and-false (differ l))
    by false false = refl

-- so all differ where the contract of none is among those before it
pub differ-by-place : (table : List ℕ) (count : ℕ) → all_below count (λ place. not (on_table (trade_at table place).contract (trades_to table place))) ≡ differ (trades_to table count)
unfolding all_below
differ-by-place table zero = sym (differ-none table)
differ-by-place table (suc count) =
    rw (differ-by-place table count) (sym (rw (← one_more table count, add-one count) at (differ-more (trades_to table count) (trade_at table count))))

-- ---- contracts by their numbers

on-table-by-number : (c : Contract) (l : List Trade) → on_table c l ≡ among c.0 (contract_numbers l)
unfolding on_table among
on-table-by-number c [] = refl
on-table-by-number c (t ∷ l) = rw (on-table-by-number c l)

pub differ-by-numbers : (l : List Trade) → differ l ≡ all_differ (contract_numbers l)
unfolding differ all_differ
differ-by-numbers [] = refl
differ-by-numbers (t ∷ l) = rw (on-table-by-number t.contract l, differ-by-numbers l)

-- the contracts of `i` of `count` trades stand in front of `numbers`
pub record Numbered (table : List ℕ) (count : ℕ) (numbers : List ℕ) (i : ℕ) : Type 0 where
  pub high : i ≤ count
  pub long : length numbers ≡ count
  pub front : take i numbers ≡ contract_numbers (trades_to table i)

module _ (table : List ℕ) (count : ℕ) (numbers : List ℕ) where
  pub none-numbered : length numbers ≡ count → Numbered table count numbers 0
  none-numbered e = record { high = omega arith; long = e; front = rw (no-trades table) }

  pub next-numbered : (i : ℕ) → Numbered table count numbers i → i < count → (contract : Contract) → contract ≡ (trade_at table i).contract → Numbered table count (set numbers i contract.0) (i + 1)
  next-numbered i n more contract e =
      record {
        high = omega arith;
        long = rw length-set n.long;
        front = rw (one_more table i, add-one, take-suc-set numbers i contract.0 (omega (arith, n.long)), n.front, e) (sym (map-append _ (trades_to table i) (trade_at table i ∷ [])));
      }
