-- Terms that start at a Close stand in the tally's rows where they stand in the table. (02, ask 4)
-- For demand 3. Assumes nothing.
use mathlib.Core.Path.{◌≡◌, refl}
use mathlib.Core.Logic.{◌⊎◌, inl, inr}
use mathlib.Core.Bool.{Bool, true, false}
use mathlib.Core.List.{List, [], ◌∷◌, map}
use Prim.Native.Nat.{ℕ, suc, ◌+◌}
use native.Mathlib.Omega.{arith}
use borrow.Author.Tests.{eq-eqb}
use Rattle.money.specs.Days.{Calendar}
use Rattle.money.specs.Money.{principal}
use Rattle.rules.specs.Book.{Book}
use Rattle.rules.specs.Days.{today}
use Rattle.rules.specs.Trades.{Contract, Trade, same, total, outstanding, on_table, differ, maturing, matured, remaining}
use Rattle.rules.specs.NextTerm.{next_term, starts, with_started, in_slot, left_from, if_started, started_from}
use Rattle.rules.specs.Tally.{without_empty, sum_rows, less, whole, whole_if_due, renewed, principal_of}
use Rattle.rules.proofs.FoldLaws.{not-here}
use Rattle.rules.proofs.TradeLaws.{zero-or-suc, remaining-none, remaining-some}
use Rattle.rules.proofs.TableFit.{all-the-same, remaining-lessens, fewer-off, same-off}
use Rattle.rules.proofs.TallyRows.{unless_empty-is-leaves, sum_rows-is-total, others-differ, not_first}
use Rattle.rules.proofs.NextTermLaws.{starts-some, started-off}

-- ---- totals

pub sheets-started : (l : List Trade) → sum_rows whole l ≡ outstanding l
unfolding outstanding
sheets-started l = sum_rows-is-total whole l

pub principal-started : (l : List Trade) → sum_rows principal_of l ≡ total (λ term. (principal term.sheets).0) l
principal-started l = sum_rows-is-total principal_of l

-- ---- rows

-- a row whose contract did not start stays
renewed-off : (started : List Trade) (row : Trade) → on_table row.contract started ≡ false → renewed started row ≡ row
unfolding on_table
renewed-off [] row e = refl
renewed-off (term ∷ started) row e =
    let n = not-here false (same term.contract row.contract) (on_table row.contract started) e in
    rw n.0 (renewed-off started row n.1)

-- a term leaves rows of other contracts alone
others-renewed : (d : ℕ) (term : Trade) (started l : List Trade) → on_table term.contract l ≡ false
    → map (λ row. renewed (term ∷ started) (less (whole_if_due d) row)) l ≡ map (λ row. renewed started (less (whole_if_due d) row)) l
others-renewed d term started [] e = refl
others-renewed d term started (t ∷ l) e =
    let n = not_first term.contract t l e in
    rw (same-off t.contract term.contract n.0, others-renewed d term started l n.1)

off-remaining : (c : Contract) (l : List Trade) → on_table c l ≡ false → on_table c (remaining l) ≡ false
off-remaining c l e = fewer-off {last = 0} c (remaining-lessens (all-the-same l)) e

same_self : (c : Contract) → same c c ≡ true
same_self c = eq-eqb c.0 c.0 refl

module _ (calendar : Calendar) (book : Book) where
  -- the rows of a Close: due rows taken whole, and started terms in their place
  abbrev after : (started l : List Trade) → List Trade
  after started l = without_empty (map (λ row. renewed started (less (whole_if_due (today book)) row)) l)

  pub rows-after-starts : (o : ℕ) (l : List Trade) → differ l ≡ true → after (started_from calendar book o l) (remaining l) ≡ remaining (left_from calendar book o l)
  unfolding started_from left_from remaining
  rows-after-starts o [] h = refl
  rows-after-starts o (t ∷ l) h =
      let apart = others-differ t l h in
      go (starts calendar book o t) refl (zero-or-suc t.sheets.0) apart.0 (λ o. rows-after-starts o l apart.1)
    where
      go : (b : Bool) → starts calendar book o t ≡ b → (t.sheets.0 ≡ 0) ⊎ ((k : ℕ) × (t.sheets.0 ≡ suc k)) → on_table t.contract l ≡ false
          → ((o : ℕ) → after (started_from calendar book o l) (remaining l) ≡ remaining (left_from calendar book o l))
          → after (if_started b (next_term calendar book t) (started_from calendar book (with_started b book t o) l)) (remaining (t ∷ l))
          ≡ remaining (in_slot b calendar book t ∷ left_from calendar book (with_started b book t o) l)
      go true e (inl z) off ih = absurd (starts-some calendar book o t e z)
      go true e (inr p) off ih =
          let term = next_term calendar book t in
          let terms = started_from calendar book (o + maturing (today book) t) l in
          rw (remaining-some t l p.0 p.1, same_self t.contract, others-renewed (today book) term terms (remaining l) (off-remaining t.contract l off), ih (o + maturing (today book) t))
          (unless_empty-is-leaves (maturing (today book) t) term (remaining (left_from calendar book (o + maturing (today book) t) l)))
      go false e (inl z) off ih = rw (remaining-none t l z, remaining-none (matured (today book) t) (left_from calendar book o l) (omega arith)) (ih o)
      go false e (inr p) off ih =
          rw (remaining-some t l p.0 p.1, renewed-off (started_from calendar book o l) (matured (today book) t) (started-off calendar book t.contract o l off), ih o)
          (unless_empty-is-leaves (matured (today book) t).sheets.0 (matured (today book) t) (remaining (left_from calendar book o l)))
