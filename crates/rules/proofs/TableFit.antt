-- Trades that lose sheets or leave: what their table keeps of its fitness. Open, Early and Close all change the table so.
-- Assumes nothing.
use mathlib.Core.Path.{◌≡◌, refl, sym}
use mathlib.Core.Bool.{Bool, true, false, cond}
use mathlib.Core.List.{List, [], ◌∷◌, ◌++◌, map}
use Prim.Native.Nat.{ℕ, zero, suc, ◌-◌, ◌≤◌}
use native.Mathlib.Omega.{arith}
use borrow.Author.Tests.{leb-true, le-leb, eqb-false, ne_eqb}
use lib.Dec.{leb}
use lib.ListN.{length}
use Rattle.money.specs.Limits.{trade_limit, price_limit}
use Rattle.rules.specs.Limits.{product_limit}
use Rattle.rules.specs.Trades.{Contract, Trade, same, with_sheets, outstanding, total, on_table, differ, take_off, emptied, maturing, matured, leaves, remaining}
use Rattle.rules.specs.Fit.{trade_fit, all_trades}
use Rattle.money.proofs.TwoTests.{both, both_of}
use Rattle.rules.proofs.FoldLaws.{not-here, every_holds, every_of}

-- a trade of the same contract with at most as many sheets, as fit as before, and begun by a last day if it was before
pub record Lessened (last : ℕ) (less trade : Trade) : Type 0 where
  pub contract : less.contract ≡ trade.contract
  pub sheets : less.sheets.0 ≤ trade.sheets.0
  pub fits : trade_fit trade ≡ true → trade_fit less ≡ true
  pub first : trade.first ≤ last → less.first ≤ last

-- the same trades in order, some lessened and some gone
pub data Fewer (last : ℕ) : List Trade → List Trade → Type 0 where
  nothing : Fewer last [] []
  less : {t' t : Trade} {l' l : List Trade} → Lessened last t' t → Fewer last l' l → Fewer last (t' ∷ l') (t ∷ l)
  gone : {t : Trade} {l' l : List Trade} → Fewer last l' l → Fewer last l' (t ∷ l)

-- ---- the tests of a trade

abbrev pub trade_tests : Trade → List Bool
trade_tests t = leb t.sheets.0 trade_limit ∷ leb t.price.0 price_limit ∷ leb t.fallback.0 price_limit ∷ leb t.product product_limit ∷ []

pub fewer-sheets-fit : (t : Trade) (n : ℕ) → n ≤ t.sheets.0 → trade_fit t ≡ true → trade_fit (with_sheets n t) ≡ true
fewer-sheets-fit t n h e =
    let p = every_holds (trade_tests t) e in
    every_of (trade_tests (with_sheets n t)) (le-leb n trade_limit (omega (arith, leb-true t.sheets.0 trade_limit p.0)), p.1)

-- every trade begins by a day
abbrev pub begun_by : ℕ → List Trade → Bool
begun_by day trades = all_trades (λ trade. leb trade.first day) trades

-- ---- which changes are so, for any last day

module _ {last : ℕ} where
  pub fewer-sheets : (t : Trade) (n : ℕ) → n ≤ t.sheets.0 → Lessened last (with_sheets n t) t
  fewer-sheets t n h = record { contract = refl; sheets = h; fits = fewer-sheets-fit t n h; first = λ b. b }

  pub all-the-same : (l : List Trade) → Fewer last l l
  all-the-same [] = nothing
  all-the-same (t ∷ l) = less (fewer-sheets t t.sheets.0 (omega arith)) (all-the-same l)

  pub map-lessens : (f : Trade → Trade) → ((t : Trade) → Lessened last (f t) t) → (l : List Trade) → Fewer last (map f l) l
  map-lessens f h [] = nothing
  map-lessens f h (t ∷ l) = less (h t) (map-lessens f h l)

  pub emptied-lessens : (l : List Trade) → Fewer last (map emptied l) l
  emptied-lessens l = map-lessens emptied (λ t. fewer-sheets t 0 (omega arith)) l

  pub matured-lessens : (today : ℕ) (l : List Trade) → Fewer last (map (matured today) l) l
  matured-lessens today l = map-lessens (matured today) (λ t. fewer-sheets t (t.sheets.0 - maturing today t) (omega arith)) l

  pub take_off-lessens : (c : Contract) (q : ℕ) (l : List Trade) → Fewer last (take_off c q l) l
  unfolding take_off
  take_off-lessens c q [] = nothing
  take_off-lessens c q (t ∷ l) = go (same t.contract c) (take_off-lessens c q l)
    where
      go : (b : Bool) → Fewer last (take_off c q l) l → Fewer last (cond b (with_sheets (t.sheets.0 - q) t ∷ l) (t ∷ take_off c q l)) (t ∷ l)
      go true f = less (fewer-sheets t (t.sheets.0 - q) (omega arith)) (all-the-same l)
      go false f = less (fewer-sheets t t.sheets.0 (omega arith)) f

  pub remaining-lessens : {l' l : List Trade} → Fewer last l' l → Fewer last (remaining l') l
  unfolding remaining
  remaining-lessens nothing = nothing
  remaining-lessens (less {t'} {t} {l'} {l} h f) = go t'.sheets.0 (remaining-lessens f)
    where
      go : (n : ℕ) → Fewer last (remaining l') l → Fewer last (leaves n t' (remaining l')) (t ∷ l)
      go zero r = gone r
      go (suc n) r = less h r
  remaining-lessens (gone f) = gone (remaining-lessens f)

  -- ---- what they keep

  pub fewer-length : {l' l : List Trade} → Fewer last l' l → length l' ≤ length l
  fewer-length nothing = omega arith
  fewer-length (less h f) = omega (arith, fewer-length f)
  fewer-length (gone f) = omega (arith, fewer-length f)

  pub fewer-outstanding : {l' l : List Trade} → Fewer last l' l → outstanding l' ≤ outstanding l
  unfolding outstanding total
  fewer-outstanding nothing = omega arith
  fewer-outstanding (less h f) = omega (arith, h.sheets, fewer-outstanding f)
  fewer-outstanding (gone f) = omega (arith, fewer-outstanding f)

  pub fewer-all : {l' l : List Trade} (test test' : Trade → Bool) → ((t' t : Trade) → Lessened last t' t → test t ≡ true → test' t' ≡ true)
      → Fewer last l' l → all_trades test l ≡ true → all_trades test' l' ≡ true
  unfolding all_trades
  fewer-all test test' keeps nothing e = refl
  fewer-all test test' keeps (less {t'} {t} {l'} {l} h f) e =
      let b = both (test t) (all_trades test l) e in
      both_of (test' t') (all_trades test' l') (keeps t' t h b.0) (fewer-all test test' keeps f b.1)
  fewer-all test test' keeps (gone {t} {l'} {l} f) e = fewer-all test test' keeps f (both (test t) (all_trades test l) e).1

  pub fewer-fit : {l' l : List Trade} → Fewer last l' l → all_trades trade_fit l ≡ true → all_trades trade_fit l' ≡ true
  fewer-fit f e = fewer-all trade_fit trade_fit (λ t' t h e. h.fits e) f e

  pub fewer-begun : {l' l : List Trade} (day : ℕ) → day ≤ last → Fewer last l' l → begun_by day l ≡ true → begun_by last l' ≡ true
  fewer-begun day later f e =
      fewer-all (λ trade. leb trade.first day) (λ trade. leb trade.first last)
      (λ t' t h e. le-leb t'.first last (h.first (omega (arith, leb-true t.first day e)))) f e

  pub fewer-off : {l' l : List Trade} (c : Contract) → Fewer last l' l → on_table c l ≡ false → on_table c l' ≡ false
  unfolding on_table
  fewer-off c nothing e = refl
  fewer-off c (less {t'} {t} {l'} {l} h f) e =
      let o = not-here false (same t.contract c) (on_table c l) e in
      rw (h.contract, o.0) (fewer-off c f o.1)
  fewer-off c (gone {t} {l'} {l} f) e = fewer-off c f (not-here false (same t.contract c) (on_table c l) e).1

  pub fewer-differ : {l' l : List Trade} → Fewer last l' l → differ l ≡ true → differ l' ≡ true
  unfolding differ
  fewer-differ nothing e = refl
  fewer-differ (less {t'} {t} {l'} {l} h f) e =
      let d = not-here true (on_table t.contract l) (differ l) e in
      rw (h.contract, fewer-off t.contract f d.0) (fewer-differ f d.1)
  fewer-differ (gone {t} {l'} {l} f) e = fewer-differ f (not-here true (on_table t.contract l) (differ l) e).1

-- ---- a new last trade

pub all_append : (test : Trade → Bool) (l : List Trade) (t : Trade) → all_trades test l ≡ true → test t ≡ true → all_trades test (l ++ (t ∷ [])) ≡ true
unfolding all_trades
all_append test [] t e h = both_of (test t) true h refl
all_append test (x ∷ l) t e h =
    let b = both (test x) (all_trades test l) e in
    both_of (test x) (all_trades test (l ++ (t ∷ []))) b.0 (all_append test l t b.1 h)

pub same-off : (a b : Contract) → same a b ≡ false → same b a ≡ false
same-off a b e = ne_eqb b.0 a.0 (λ q. eqb-false a.0 b.0 e (sym q))

off-append : (c : Contract) (l : List Trade) (t : Trade) → on_table c l ≡ false → same t.contract c ≡ false → on_table c (l ++ (t ∷ [])) ≡ false
unfolding on_table
off-append c [] t e h = rw h
off-append c (x ∷ l) t e h = let o = not-here false (same x.contract c) (on_table c l) e in rw o.0 (off-append c l t o.1 h)

pub differ-append : (l : List Trade) (t : Trade) → differ l ≡ true → on_table t.contract l ≡ false → differ (l ++ (t ∷ [])) ≡ true
unfolding differ on_table
differ-append [] t d o = refl
differ-append (x ∷ l) t d o =
    let p = not-here true (on_table x.contract l) (differ l) d in
    let q = not-here false (same x.contract t.contract) (on_table t.contract l) o in
    rw (off-append x.contract l t p.0 (same-off x.contract t.contract q.0)) (differ-append l t p.1 q.1)
