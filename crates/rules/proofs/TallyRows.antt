-- The tally's own rules for rows agree with the book's rules for trades: empty rows go as trades leave, and rows are taken and summed alike.
-- For demand 3, where the tally's rows are the trades that the table still has. Assumes nothing.
use mathlib.Core.Path.{◌≡◌, refl, sym, ap, ◌∙◌}
use mathlib.Core.Logic.{◌⊎◌, inl, inr}
use mathlib.Core.Bool.{Bool, true, false, cond}
use mathlib.Core.List.{List, [], ◌∷◌, ◌++◌, map}
use Prim.Native.Nat.{ℕ, zero, suc, ◌+◌, ◌-◌, ◌<◌}
use native.Mathlib.Omega.{arith}
use borrow.Author.Tests.{eqb-true}
use Rattle.money.specs.declared.units.Ticks.{Ticks}
use Rattle.money.specs.Units.{sheets}
use Rattle.money.specs.Money.{redemption}
use Rattle.money.proofs.Bounds.{no-sheets}
use Rattle.rules.specs.Trades.{Contract, Trade, same, with_sheets, total, outstanding, on_table, trade_of, differ, take_off, redeemed, fallback_amount, emptied, maturing, maturity_amount, leaves, remaining}
use Rattle.rules.specs.Tally.{unless_empty, without_empty, sum_rows, less, taken_from, amount_of, whole, whole_if_due, of_contract}
use Rattle.rules.proofs.TradeLaws.{zero-or-suc, remaining-none, remaining-some, remaining-append, remaining-remaining, remaining-map, remaining-emptied, total-remaining, maturing-le}

-- ---- all rows

pub unless_empty-is-leaves : (n : ℕ) (t : Trade) (l : List Trade) → unless_empty n t l ≡ leaves n t l
unless_empty-is-leaves zero t l = refl
unless_empty-is-leaves (suc n) t l = refl

pub without_empty-is-remaining : (l : List Trade) → without_empty l ≡ remaining l
unfolding remaining
without_empty-is-remaining [] = refl
without_empty-is-remaining (t ∷ l) = rw (without_empty-is-remaining l) (unless_empty-is-leaves t.sheets.0 t (remaining l))

pub sum_rows-is-total : (f : Trade → ℕ) (l : List Trade) → sum_rows f l ≡ total f l
unfolding total
sum_rows-is-total f [] = refl
sum_rows-is-total f (t ∷ l) = ap (λ n. f t + n) (sum_rows-is-total f l)

-- a sum in which empty rows count for nothing
pub sum_rows-remaining : (f : Trade → ℕ) → ((t : Trade) → t.sheets.0 ≡ 0 → f t ≡ 0) → (l : List Trade) → sum_rows f (remaining l) ≡ total f l
sum_rows-remaining f none l = sum_rows-is-total f (remaining l) ∙ total-remaining f none l

-- a new row
pub without_empty-append : (l : List Trade) (t : Trade) → without_empty (remaining l ++ (t ∷ [])) ≡ remaining (l ++ (t ∷ []))
without_empty-append l t =
    without_empty-is-remaining (remaining l ++ (t ∷ []))
    ∙ remaining-append (remaining l) (t ∷ [])
    ∙ ap (λ k. k ++ remaining (t ∷ [])) (remaining-remaining l)
    ∙ sym (remaining-append l (t ∷ []))

pub taken_from-remaining : (taken : Trade → ℕ) (l : List Trade) → taken_from taken (remaining l) ≡ remaining (map (less taken) l)
taken_from-remaining taken l = without_empty-is-remaining (map (less taken) (remaining l)) ∙ remaining-map (less taken) (λ t e. omega arith) l

-- ---- each row whole

pub taken-whole : (l : List Trade) → taken_from whole (remaining l) ≡ []
taken-whole l = taken_from-remaining whole l ∙ ap remaining (emptied-by-whole l) ∙ remaining-emptied l
  where
    emptied-by-whole : (l : List Trade) → map (less whole) l ≡ map emptied l
    emptied-by-whole [] = refl
    emptied-by-whole (t ∷ l) = let none : t.sheets.0 - t.sheets.0 ≡ 0 = omega arith in rw (none, emptied-by-whole l)

pub sheets-whole : (l : List Trade) → sum_rows whole (remaining l) ≡ outstanding l
unfolding outstanding
sheets-whole l = sum_rows-remaining whole (λ t e. e) l

pub amount-whole : (payment : ℕ) (l : List Trade) → amount_of payment whole (λ t. t.fallback) (remaining l) ≡ total (fallback_amount payment) l
amount-whole payment l = sum_rows-remaining (fallback_amount payment) (λ t e. no-sheets t.sheets t.fallback (payment - t.first) e) l

-- ---- each row due by a day

maturing-none : (d : ℕ) (t : Trade) → t.sheets.0 ≡ 0 → maturing d t ≡ 0
maturing-none d t e = omega (arith, maturing-le d t)

pub sheets-due : (d : ℕ) (l : List Trade) → sum_rows (whole_if_due d) (remaining l) ≡ total (maturing d) l
sheets-due d l = sum_rows-remaining (maturing d) (maturing-none d) l

pub amount-due : (d payment : ℕ) (l : List Trade) → amount_of payment (whole_if_due d) (λ t. t.price) (remaining l) ≡ total (maturity_amount d payment) l
amount-due d payment l = sum_rows-remaining (maturity_amount d payment) (λ t e. no-sheets (sheets (maturing d t)) t.price (payment - t.first) (maturing-none d t e)) l

-- ---- a contract's row, where contracts differ

-- the first trade of a list with differing contracts has a contract that the others have not
pub others-differ : (t : Trade) (l : List Trade) → differ (t ∷ l) ≡ true → (on_table t.contract l ≡ false) × (differ l ≡ true)
unfolding differ
others-differ t l h = go (on_table t.contract l) h
  where
    go : (b : Bool) → cond b false (differ l) ≡ true → (b ≡ false) × (differ l ≡ true)
    go true h = let z : ◌≡◌ {A = ℕ} 0 1 = cc in absurd (omega arith)
    go false h = (refl, h)

-- the same of a contract with that number
off-others : (c : Contract) (t : Trade) (l : List Trade) → same t.contract c ≡ true → differ (t ∷ l) ≡ true → on_table c l ≡ false
off-others c t l m h = ap (λ (n : ℕ). on_table (record { 0 = n }) l) (sym (eqb-true t.contract.0 c.0 m)) ∙ (others-differ t l h).0

-- a contract that no trade has
pub not_first : (c : Contract) (t : Trade) (l : List Trade) → on_table c (t ∷ l) ≡ false → (same t.contract c ≡ false) × (on_table c l ≡ false)
unfolding on_table
not_first c t l h = go (same t.contract c) h
  where
    go : (b : Bool) → cond b true (on_table c l) ≡ false → (b ≡ false) × (on_table c l ≡ false)
    go true h = let z : ◌≡◌ {A = ℕ} 0 1 = cc in absurd (omega arith)
    go false h = (refl, h)

take-nothing : (t : Trade) → with_sheets (t.sheets.0 - 0) t ≡ t
take-nothing t = let all : t.sheets.0 - 0 ≡ t.sheets.0 = omega arith in rw all

less-off : (c : Contract) (q : ℕ) (l : List Trade) → on_table c l ≡ false → map (less (of_contract c q)) l ≡ l
less-off c q [] h = refl
less-off c q (t ∷ l) h = let n = not_first c t l h in rw (n.0, take-nothing t, less-off c q l n.1)

less-is-take_off : (c : Contract) (q : ℕ) (l : List Trade) → differ l ≡ true → map (less (of_contract c q)) l ≡ take_off c q l
unfolding take_off
less-is-take_off c q [] h = refl
less-is-take_off c q (t ∷ l) h = go (same t.contract c) refl (less-is-take_off c q l (others-differ t l h).1)
  where
    go : (b : Bool) → same t.contract c ≡ b → map (less (of_contract c q)) l ≡ take_off c q l
        → with_sheets (t.sheets.0 - cond b q 0) t ∷ map (less (of_contract c q)) l ≡ cond b (with_sheets (t.sheets.0 - q) t ∷ l) (t ∷ take_off c q l)
    go true m f = rw (less-off c q l (off-others c t l m h))
    go false m f = rw (take-nothing t, f)

pub taken-of-contract : (c : Contract) (q : ℕ) (l : List Trade) → differ l ≡ true → taken_from (of_contract c q) (remaining l) ≡ remaining (take_off c q l)
taken-of-contract c q l h = taken_from-remaining (of_contract c q) l ∙ ap remaining (less-is-take_off c q l h)

-- a sum in which only rows of a contract count is what its trade counts for
module _ (c : Contract) (f : Trade → ℕ) (off : (t : Trade) → same t.contract c ≡ false → f t ≡ 0) where
  sum_rows-off : (l : List Trade) → on_table c l ≡ false → sum_rows f (remaining l) ≡ 0
  unfolding remaining
  sum_rows-off [] h = refl
  sum_rows-off (t ∷ l) h = go t.sheets.0 (sum_rows-off l (not_first c t l h).1)
    where
      go : (n : ℕ) → sum_rows f (remaining l) ≡ 0 → sum_rows f (leaves n t (remaining l)) ≡ 0
      go zero e = e
      go (suc n) e = omega (arith, off t (not_first c t l h).0)

  sum_rows-of-contract : (l : List Trade) → differ l ≡ true → 0 < (trade_of c l).sheets.0 → sum_rows f (remaining l) ≡ f (trade_of c l)
  unfolding remaining trade_of
  sum_rows-of-contract [] h k = absurd (omega arith)
  sum_rows-of-contract (t ∷ l) h k = go (zero-or-suc t.sheets.0) (same t.contract c) refl k (sum_rows-of-contract l (others-differ t l h).1)
    where
      go : (t.sheets.0 ≡ 0) ⊎ ((k : ℕ) × (t.sheets.0 ≡ suc k)) → (b : Bool) → same t.contract c ≡ b → 0 < (cond b t (trade_of c l)).sheets.0
          → (0 < (trade_of c l).sheets.0 → sum_rows f (remaining l) ≡ f (trade_of c l))
          → sum_rows f (remaining (t ∷ l)) ≡ f (cond b t (trade_of c l))
      go (inl e) true m k r = absurd (omega arith)
      go (inl e) false m k r = rw (remaining-none t l e) (r k)
      go (inr p) true m k r = rw (remaining-some t l p.0 p.1) (omega (arith, sum_rows-off l (off-others c t l m h)))
      go (inr p) false m k r = rw (remaining-some t l p.0 p.1) (omega (arith, off t m, r k))

trade_of-contract : (c : Contract) (l : List Trade) → on_table c l ≡ true → same (trade_of c l).contract c ≡ true
unfolding on_table trade_of
trade_of-contract c [] h = let z : ◌≡◌ {A = ℕ} 0 1 = cc in absurd (omega arith)
trade_of-contract c (t ∷ l) h = go (same t.contract c) refl h (trade_of-contract c l)
  where
    go : (b : Bool) → same t.contract c ≡ b → cond b true (on_table c l) ≡ true → (on_table c l ≡ true → same (trade_of c l).contract c ≡ true) → same (cond b t (trade_of c l)).contract c ≡ true
    go true m h r = m
    go false m h r = r h

of_contract-off : (c : Contract) (q : ℕ) (t : Trade) → same t.contract c ≡ false → of_contract c q t ≡ 0
of_contract-off c q t m = rw m

module _ (c : Contract) (q : ℕ) (l : List Trade) (apart : differ l ≡ true) (there : on_table c l ≡ true) (left : 0 < (trade_of c l).sheets.0) where
  all-of-contract : of_contract c q (trade_of c l) ≡ q
  all-of-contract = rw (trade_of-contract c l there)

  pub sheets-of-contract : sum_rows (of_contract c q) (remaining l) ≡ q
  sheets-of-contract = sum_rows-of-contract c (of_contract c q) (of_contract-off c q) l apart left ∙ all-of-contract

  pub amount-of-contract : (payment : ℕ) (price : Ticks) → amount_of payment (of_contract c q) (λ t. price) (remaining l) ≡ redeemed payment q price (trade_of c l)
  amount-of-contract payment price =
      sum_rows-of-contract c (λ t. (redemption (sheets (of_contract c q t)) price (payment - t.first)).0) (λ t m. no-sheets (sheets (of_contract c q t)) price (payment - t.first) (of_contract-off c q t m)) l apart left
      ∙ ap (λ (n : ℕ). redeemed payment n price (trade_of c l)) all-of-contract
