-- Laws of the next terms that start at a Close: how fit they are, what they add to O, and that headroom suffices for each. (02, ask 4)
-- Assumes nothing.
use mathlib.Core.Path.{◌≡◌, refl, ◌∙◌}
use mathlib.Core.Bool.{Bool, true, false, not}
use mathlib.Core.List.{List, [], ◌∷◌, map}
use Prim.Native.Nat.{ℕ, zero, suc, ◌+◌, ◌-◌, ◌≤◌, min}
use native.Mathlib.Omega.{arith}
use borrow.Author.Tests.{leb-true, le-leb, eqb-false, not-true}
use lib.Dec.{eqb}
use lib.IntN.{pos, sub_ℕ}
use lib.Signed.{lt_z, ◌≤ℤ◌}
use Rattle.money.specs.Limits.{trade_limit, price_limit}
use Rattle.money.specs.Days.{Calendar}
use Rattle.rules.specs.Limits.{product_limit}
use Rattle.rules.specs.Book.{Book, is_normal, posting_of, is_posted}
use Rattle.rules.specs.Days.{today, payment_day}
use Rattle.rules.specs.Trades.{Contract, Trade, same, total, outstanding, on_table, maturing, matured}
use Rattle.rules.specs.Vault.{value, headroom_of}
use Rattle.rules.specs.Initial.{bad_due}
use Rattle.rules.specs.NextTerm.{posting_for, next_due, next_term, headroom_at_start, starts, with_started, in_slot, left_from, if_started, started_from}
use Rattle.rules.specs.Demand3.{outstandings, Each}
use Rattle.rules.proofs.FoldLaws.{by-test, Holds, every_holds, every_of, not-here}
use Rattle.rules.proofs.Signed.{not-lt-parts, sub_parts, sub-at-least-0}
use Rattle.rules.proofs.TradeLaws.{maturing-le, matures-whole}
use Rattle.rules.proofs.FitParts.{PostingFits, PostingsFit}
use Rattle.rules.proofs.TableFit.{Lessened, Fewer, nothing, less, trade_tests, fewer-sheets}
use Rattle.rules.proofs.KeepsFit.{none-posted-fits}

module _ (calendar : Calendar) (book : Book) where
  -- ---- the five conditions

  abbrev start_tests : ℕ → Trade → List Bool
  start_tests o t =
      not (eqb (maturing (today book) t) 0)
      ∷ is_normal book.standing.status
      ∷ is_posted (posting_for book t)
      ∷ not (bad_due calendar (today book) (next_due book t))
      ∷ not (lt_z (headroom_at_start book o) (pos (maturing (today book) t)))
      ∷ []

  start-holds : (o : ℕ) (t : Trade) → starts calendar book o t ≡ true → Holds (start_tests o t)
  unfolding starts
  start-holds o t e = every_holds (start_tests o t) e

  -- a term that starts has all of its trade's sheets
  pub starts-whole : (o : ℕ) (t : Trade) → starts calendar book o t ≡ true → maturing (today book) t ≡ t.sheets.0
  starts-whole o t e = matures-whole (today book) t (start-holds o t e).0

  -- and has some
  pub starts-some : (o : ℕ) (t : Trade) → starts calendar book o t ≡ true → t.sheets.0 ≡ 0 → ⊥
  starts-some o t e none = eqb-false (maturing (today book) t) 0 (not-true _ (start-holds o t e).0) (starts-whole o t e ∙ none)

  -- headroom has room for it
  pub start-covered : (o : ℕ) (t : Trade) → starts calendar book o t ≡ true → o + maturing (today book) t ≤ min book.size.0 (value book.vault)
  start-covered o t e =
      let room = min book.size.0 (value book.vault) in
      omega (arith, sub_parts room o, not-lt-parts (sub_ℕ room o) (pos (maturing (today book) t)) (not-true _ (start-holds o t e).1.1.1.1.0))

  -- ---- fitness

  posting-fits-for : PostingsFit book.postings → (product : ℕ) → product ≤ product_limit → PostingFits (posting_of book product)
  posting-fits-for f zero h = none-posted-fits
  posting-fits-for f (suc number) h = f number h

  next_fits : PostingsFit book.postings → (t : Trade) → Lessened (payment_day calendar book.standing.day) (next_term calendar book t) t
  next_fits f t = record {
    contract = refl;
    sheets = maturing-le (today book) t;
    fits = λ e.
        let p = every_holds (trade_tests t) e in
        let q = posting-fits-for f t.product (leb-true t.product product_limit p.1.1.1.0) in
        every_of (trade_tests (next_term calendar book t)) (
          le-leb (maturing (today book) t) trade_limit (omega (arith, maturing-le (today book) t, leb-true t.sheets.0 trade_limit p.0)),
          (
            le-leb (posting_for book t).price.0 price_limit q.price,
            (le-leb (posting_for book t).fallback.0 price_limit q.fallback, p.1.1.1),
          ),
        );
    first = λ h. omega (arith, h);
  }

  -- as (b) begins every slot holds its trade matured, or its next term
  pub left-fewer : PostingsFit book.postings → (o : ℕ) (l : List Trade) → Fewer (payment_day calendar book.standing.day) (left_from calendar book o l) l
  unfolding left_from
  left-fewer f o [] = nothing
  left-fewer f o (t ∷ l) =
      less
      (by-test (λ b. Lessened (payment_day calendar book.standing.day) (in_slot b calendar book t) t) (starts calendar book o t)
      (λ _. next_fits f t) (λ _. fewer-sheets t (t.sheets.0 - maturing (today book) t) (omega arith)))
      (left-fewer f (with_started (starts calendar book o t) book t o) l)

  -- ---- what they add to O

  pub outstanding-left : (o : ℕ) (l : List Trade) → outstanding (left_from calendar book o l) ≡ outstanding (map (matured (today book)) l) + outstanding (started_from calendar book o l)
  unfolding outstanding total left_from started_from
  outstanding-left o [] = refl
  outstanding-left o (t ∷ l) = go (starts calendar book o t) refl (λ o. outstanding-left o l)
    where
      go : (b : Bool) → starts calendar book o t ≡ b
          → ((o : ℕ) → outstanding (left_from calendar book o l) ≡ outstanding (map (matured (today book)) l) + outstanding (started_from calendar book o l))
          → outstanding (in_slot b calendar book t ∷ left_from calendar book (with_started b book t o) l)
          ≡ outstanding (map (matured (today book)) (t ∷ l)) + outstanding (if_started b (next_term calendar book t) (started_from calendar book (with_started b book t o) l))
      go true e ih = omega (arith, starts-whole o t e, ih (with_started true book t o))
      go false e ih = omega (arith, ih o)

  -- right after each of them headroom is 0 or above
  pub each-covered : (o : ℕ) (l : List Trade) → Each (λ n. pos 0 ≤ℤ headroom_of book.size.0 (value book.vault) n) (outstandings o (started_from calendar book o l))
  unfolding started_from
  each-covered o [] = tt
  each-covered o (t ∷ l) = go (starts calendar book o t) refl (λ o. each-covered o l)
    where
      go : (b : Bool) → starts calendar book o t ≡ b
          → ((o : ℕ) → Each (λ n. pos 0 ≤ℤ headroom_of book.size.0 (value book.vault) n) (outstandings o (started_from calendar book o l)))
          → Each (λ n. pos 0 ≤ℤ headroom_of book.size.0 (value book.vault) n)
          (outstandings o (if_started b (next_term calendar book t) (started_from calendar book (with_started b book t o) l)))
      go true e ih = (sub-at-least-0 (min book.size.0 (value book.vault)) (o + maturing (today book) t) (start-covered o t e), ih (o + maturing (today book) t))
      go false e ih = ih o

  -- ---- their contracts are those of the trades

  pub started-off : (c : Contract) (o : ℕ) (l : List Trade) → on_table c l ≡ false → on_table c (started_from calendar book o l) ≡ false
  unfolding started_from on_table
  started-off c o [] e = refl
  started-off c o (t ∷ l) e =
      let n = not-here false (same t.contract c) (on_table c l) e in
      go (starts calendar book o t) n.0 (λ o. started-off c o l n.1)
    where
      go : (b : Bool) → same t.contract c ≡ false → ((o : ℕ) → on_table c (started_from calendar book o l) ≡ false)
          → on_table c (if_started b (next_term calendar book t) (started_from calendar book (with_started b book t o) l)) ≡ false
      go true off ih = rw off (ih (with_started true book t o))
      go false off ih = ih o
