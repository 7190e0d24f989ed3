-- A Close at which a term starts is not short: the last one to start had headroom, what arrives only adds to V, and what goes leaves O covered.
-- (02, ask 4; arts. 30, 53, 69)
-- Assumes nothing.
use mathlib.Core.Path.{◌≡◌, refl}
use mathlib.Core.Bool.{Bool, true, false}
use mathlib.Core.List.{List, [], ◌∷◌}
use Prim.Native.Nat.{ℕ, ◌+◌, ◌≤◌, min}
use native.Mathlib.Omega.{arith}
use lib.IntN.{pos}
use lib.Signed.{◌≤ℤ◌}
use Rattle.money.specs.Days.{Calendar}
use Rattle.rules.specs.Book.{NotShort, Vault, Book}
use Rattle.rules.specs.Days.{today}
use Rattle.rules.specs.Trades.{Trade, in_use, total, outstanding, maturing, remaining}
use Rattle.rules.specs.Vault.{value, headroom}
use Rattle.rules.specs.Entry.{Close, Some}
use Rattle.rules.specs.NextTerm.{next_term, starts, with_started, if_started, started_from}
use Rattle.rules.specs.Close.{matured_trades, outstanding_matured, left_trades, started_terms, all_arrived, evening, claims_at_close, is_short_close, closed_table, closed_book}
use Rattle.rules.specs.Step.{act, step, accepted}
use Rattle.rules.proofs.Signed.{sub-at-least-0}
use Rattle.rules.proofs.TradeLaws.{take-packed, outstanding-remaining}
use Rattle.rules.proofs.Answers.{accepted-only-where-none-applies}
use Rattle.rules.proofs.NextTermLaws.{start-covered, outstanding-left}
use Rattle.rules.proofs.EveningValue.{value-arrives, left-enough, not_short}

module _ (calendar : Calendar) (book : Book) where
  -- S and V before (c) have O with all that started
  started-covered : (o : ℕ) (l : List Trade) → (started_from calendar book o l ≡ [] → ⊥)
      → o + outstanding (started_from calendar book o l) ≤ min book.size.0 (value book.vault)
  unfolding outstanding total started_from
  started-covered o [] some = absurd (some refl)
  started-covered o (t ∷ l) some = go (starts calendar book o t) refl (λ o. started-covered o l) some
    where
      last : (o q : ℕ) (terms : List Trade) → o + q ≤ min book.size.0 (value book.vault)
          → ((terms ≡ [] → ⊥) → o + q + outstanding terms ≤ min book.size.0 (value book.vault))
          → o + (q + outstanding terms) ≤ min book.size.0 (value book.vault)
      last o q [] room more = omega arith
      last o q (term ∷ terms) room more = omega (arith, more (λ e. (let z : ◌≡◌ {A = ℕ} 0 1 = cc in omega arith)))

      go : (b : Bool) → starts calendar book o t ≡ b
          → ((o : ℕ) → (started_from calendar book o l ≡ [] → ⊥) → o + outstanding (started_from calendar book o l) ≤ min book.size.0 (value book.vault))
          → (if_started b (next_term calendar book t) (started_from calendar book (with_started b book t o) l) ≡ [] → ⊥)
          → o + outstanding (if_started b (next_term calendar book t) (started_from calendar book (with_started b book t o) l)) ≤ min book.size.0 (value book.vault)
      go true e ih some =
          let q = maturing (today book) t in
          last o q (started_from calendar book (o + q) l) (start-covered calendar book o t e) (ih (o + q))
      go false e ih some = ih o some

module _ (calendar : Calendar) (book : Book) (table : List Trade) (some : started_terms calendar book table ≡ [] → ⊥) where
  abbrev left : List Trade
  left = left_trades calendar book table

  -- the vault once the evening is over
  abbrev kept : Vault
  kept = (evening book (claims_at_close calendar book left table)).vault

  left-covered : outstanding left ≤ min book.size.0 (value book.vault)
  unfolding left_trades started_terms matured_trades
  left-covered =
      let o = outstanding_matured book table in
      let trades = in_use book.trades table in
      omega (arith, outstanding-left calendar book o trades, started-covered calendar book o trades some)

  kept-covers : outstanding left ≤ value kept
  unfolding claims_at_close
  kept-covers =
      let arrived : outstanding left ≤ value (all_arrived book.vault) = omega (arith, left-covered, value-arrives book.vault) in
      left-enough book (claims_at_close calendar book left table) (outstanding left) (omega arith) arrived

  pub starting-is-not-short : is_short_close book left kept ≡ false
  starting-is-not-short = not_short book left kept (omega (arith, left-covered)) kept-covers

  -- so where it is accepted, headroom is 0 or above after it, and the short run is 0
  pub close-with-starts : accepted (step calendar book table (Some Close)).answer.number ≡ true
      → let after = step calendar book table (Some Close) in (pos 0 ≤ℤ headroom after.book after.table) × (after.book.standing.short ≡ NotShort)
  unfolding step act closed_book closed_table headroom
  close-with-starts done =
      let room : outstanding left ≤ min book.size.0 (value kept) = omega (arith, left-covered, kept-covers) in
      rw (accepted-only-where-none-applies calendar book table (Some Close) done) (
        rw (take-packed book.trades (remaining left) table, outstanding-remaining left) (sub-at-least-0 (min book.size.0 (value kept)) (outstanding left) room),
        rw starting-is-not-short refl,
      )
