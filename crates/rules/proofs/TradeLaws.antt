-- Laws of the trades on the table: their sums and their number under redemption, and where changed trades stand.
-- For demand 3, and for the proofs of the events that change the table. Assumes nothing.
use mathlib.Core.Path.{◌≡◌, refl, ap, ◌∙◌}
use mathlib.Core.Logic.{◌⊎◌, inl, inr}
use mathlib.Core.Bool.{Bool, true, false, cond, not}
use mathlib.Core.List.{List, [], ◌∷◌, ◌++◌, map}
use Prim.Native.Nat.{ℕ, zero, suc, ◌+◌, ◌-◌, ◌≤◌, ◌<◌}
use native.Mathlib.Numerals.{add-one}
use native.Mathlib.Omega.{arith}
use borrow.Author.Tests.{eqb-false, not-true}
use lib.Dec.{leb, eqb}
use lib.ListN.{length, take, drop, set, replicate, length-append, length-drop, length-replicate}
use lib.Seq.{take_at, take-append_seam, length-take-le, length_front, take-suc-set}
use Rattle.rules.specs.Trades.{Contract, Trade, no_trade, same, with_sheets, total, outstanding, on_table, trade_of, take_off, emptied, maturing, matured, leaves, remaining, packed, over}

-- the sheets left of a trade
abbrev pub sheets_of : Trade → ℕ
sheets_of trade = trade.sheets.0

-- a number is 0 or a successor, with the equation
pub zero-or-suc : (n : ℕ) → (n ≡ 0) ⊎ ((k : ℕ) × (n ≡ suc k))
zero-or-suc zero = inl refl
zero-or-suc (suc k) = inr (k, refl)

-- ---- sums

pub total-append : (f : Trade → ℕ) (a b : List Trade) → total f (a ++ b) ≡ total f a + total f b
unfolding total
total-append f [] b = omega arith
total-append f (t ∷ a) b = omega (arith, total-append f a b)

pub outstanding-append : (a b : List Trade) → outstanding (a ++ b) ≡ outstanding a + outstanding b
unfolding outstanding
outstanding-append a b = total-append sheets_of a b

pub outstanding-one : (t : Trade) → outstanding (t ∷ []) ≡ t.sheets.0
unfolding outstanding total
outstanding-one t = omega arith

pub outstanding-emptied : (l : List Trade) → outstanding (map emptied l) ≡ 0
unfolding outstanding total
outstanding-emptied [] = refl
outstanding-emptied (t ∷ l) = omega (arith, outstanding-emptied l)

-- ---- trades with nothing left

pub remaining-none : (t : Trade) (l : List Trade) → t.sheets.0 ≡ 0 → remaining (t ∷ l) ≡ remaining l
unfolding remaining
remaining-none t l e = rw e

pub remaining-some : (t : Trade) (l : List Trade) (k : ℕ) → t.sheets.0 ≡ suc k → remaining (t ∷ l) ≡ t ∷ remaining l
unfolding remaining
remaining-some t l k e = rw e

-- a trade with nothing left counts for nothing, so it may go
pub total-remaining : (f : Trade → ℕ) → ((t : Trade) → t.sheets.0 ≡ 0 → f t ≡ 0) → (l : List Trade) → total f (remaining l) ≡ total f l
unfolding total remaining
total-remaining f none [] = refl
total-remaining f none (t ∷ l) = go (zero-or-suc t.sheets.0) (total-remaining f none l)
  where
    go : (t.sheets.0 ≡ 0) ⊎ ((k : ℕ) × (t.sheets.0 ≡ suc k)) → total f (remaining l) ≡ total f l → total f (remaining (t ∷ l)) ≡ f t + total f l
    go (inl e) h = rw (remaining-none t l e) (omega (arith, none t e))
    go (inr p) h = rw (remaining-some t l p.0 p.1) (omega arith)

pub outstanding-remaining : (l : List Trade) → outstanding (remaining l) ≡ outstanding l
unfolding outstanding
outstanding-remaining l = total-remaining sheets_of (λ t e. e) l

leaves-append : (n : ℕ) (t : Trade) (a b : List Trade) → leaves n t (a ++ b) ≡ leaves n t a ++ b
leaves-append zero t a b = refl
leaves-append (suc n) t a b = refl

pub remaining-append : (a b : List Trade) → remaining (a ++ b) ≡ remaining a ++ remaining b
unfolding remaining
remaining-append [] b = refl
remaining-append (t ∷ a) b = rw (remaining-append a b) (leaves-append t.sheets.0 t (remaining a) (remaining b))

pub remaining-remaining : (l : List Trade) → remaining (remaining l) ≡ remaining l
unfolding remaining
remaining-remaining [] = refl
remaining-remaining (t ∷ l) = go (zero-or-suc t.sheets.0) (remaining-remaining l)
  where
    go : (t.sheets.0 ≡ 0) ⊎ ((k : ℕ) × (t.sheets.0 ≡ suc k)) → remaining (remaining l) ≡ remaining l → remaining (remaining (t ∷ l)) ≡ remaining (t ∷ l)
    go (inl e) h = rw (remaining-none t l e) h
    go (inr p) h = rw (remaining-some t l p.0 p.1, remaining-some t (remaining l) p.0 p.1, h)

-- a change that adds no sheets to a trade with none gives the same before trades leave and after
pub remaining-map : (g : Trade → Trade) → ((t : Trade) → t.sheets.0 ≡ 0 → (g t).sheets.0 ≡ 0) → (l : List Trade) → remaining (map g (remaining l)) ≡ remaining (map g l)
unfolding remaining
remaining-map g none [] = refl
remaining-map g none (t ∷ l) = go (zero-or-suc t.sheets.0) (remaining-map g none l)
  where
    go : (t.sheets.0 ≡ 0) ⊎ ((k : ℕ) × (t.sheets.0 ≡ suc k)) → remaining (map g (remaining l)) ≡ remaining (map g l) → remaining (map g (remaining (t ∷ l))) ≡ remaining (g t ∷ map g l)
    go (inl e) h = rw (remaining-none t l e, remaining-none (g t) (map g l) (none t e)) h
    go (inr p) h = rw (remaining-some t l p.0 p.1) (ap (leaves (g t).sheets.0 (g t)) h)

pub remaining-emptied : (l : List Trade) → remaining (map emptied l) ≡ []
unfolding remaining
remaining-emptied [] = refl
remaining-emptied (t ∷ l) = remaining-emptied l

-- ---- maturity

pub maturing-le : (d : ℕ) (t : Trade) → maturing d t ≤ t.sheets.0
maturing-le d t = go (leb t.due d)
  where
    go : (b : Bool) → cond b t.sheets.0 0 ≤ t.sheets.0
    go true = omega arith
    go false = omega arith

-- a trade of which sheets mature matures whole
pub matures-whole : (d : ℕ) (t : Trade) → not (eqb (maturing d t) 0) ≡ true → maturing d t ≡ t.sheets.0
matures-whole d t some = go (leb t.due d) (eqb-false (maturing d t) 0 (not-true _ some))
  where
    go : (b : Bool) → (cond b t.sheets.0 0 ≡ 0 → ⊥) → cond b t.sheets.0 0 ≡ t.sheets.0
    go true none = refl
    go false none = absurd (none refl)

pub outstanding-matured : (d : ℕ) (l : List Trade) → outstanding (map (matured d) l) + total (maturing d) l ≡ outstanding l
unfolding outstanding total
outstanding-matured d [] = refl
outstanding-matured d (t ∷ l) = omega (arith, maturing-le d t, outstanding-matured d l)

-- ---- sheets taken off a contract's trade

pub outstanding-take_off : (c : Contract) (q : ℕ) (l : List Trade) → on_table c l ≡ true → q ≤ (trade_of c l).sheets.0 → outstanding (take_off c q l) + q ≡ outstanding l
unfolding outstanding total on_table trade_of take_off
outstanding-take_off c q [] h k = let z : ◌≡◌ {A = ℕ} 0 1 = cc in absurd (omega arith)
outstanding-take_off c q (t ∷ l) h k = go (same t.contract c) h k (outstanding-take_off c q l)
  where
    go : (b : Bool) → cond b true (on_table c l) ≡ true → q ≤ (cond b t (trade_of c l)).sheets.0
        → (on_table c l ≡ true → q ≤ (trade_of c l).sheets.0 → outstanding (take_off c q l) + q ≡ outstanding l)
        → outstanding (cond b (with_sheets (t.sheets.0 - q) t ∷ l) (t ∷ take_off c q l)) + q ≡ t.sheets.0 + outstanding l
    go true h k f = omega arith
    go false h k f = omega (arith, f h k)

pub length-take_off : (c : Contract) (q : ℕ) (l : List Trade) → length (take_off c q l) ≡ length l
unfolding take_off
length-take_off c q [] = refl
length-take_off c q (t ∷ l) = go (same t.contract c) (length-take_off c q l)
  where
    go : (b : Bool) → length (take_off c q l) ≡ length l → length (cond b (with_sheets (t.sheets.0 - q) t ∷ l) (t ∷ take_off c q l)) ≡ suc (length l)
    go true h = refl
    go false h = ap suc h

-- ---- where trades stand in the table

-- trades changed one by one stand where they stood
pub take-over : (n : ℕ) (changed table : List Trade) → n ≤ length table → length changed ≡ length (take n table) → take n (over n changed table) ≡ changed
take-over n changed table h e = take_at changed (drop n table) n (e ∙ length-take-le n table h)

pub length_over : (n : ℕ) (changed table : List Trade) → n ≤ length table → length changed ≡ length (take n table) → length (over n changed table) ≡ length table
length_over n changed table h e = length_front table changed n e

-- trades that stay stand first, in order, and the table keeps its length
pub take-packed : (n : ℕ) (kept table : List Trade) → take (length kept) (packed n kept table) ≡ kept
take-packed n kept table = take-append_seam kept (replicate (n - length kept) no_trade ++ drop n table)

pub length-packed : (n : ℕ) (kept table : List Trade) → n ≤ length table → length kept ≤ n → length (packed n kept table) ≡ length table
length-packed n kept table h k = simp (length-append, length-replicate, length-drop) (omega arith)

-- a new trade stands after those in use
pub take-begun : (n : ℕ) (table : List Trade) (t : Trade) → n < length table → take (n + 1) (set table n t) ≡ take n table ++ (t ∷ [])
take-begun n table t h = rw add-one (take-suc-set table n t h)
