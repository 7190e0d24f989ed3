-- U, and what it holds back: it grows by what is redeemed, a payment clears it, and an evening that lets anything go leaves it covered.
-- (02, ask 2; arts. 49, 52, 53, 62)
-- Assumes nothing.
use mathlib.Core.Path.{◌≡◌, refl}
use mathlib.Core.Bool.{Bool, true, false, cond, ◌&&◌}
use mathlib.Core.List.{List, [], ◌∷◌}
use mathlib.Core.Option.{Option, none, some}
use Prim.Native.Nat.{ℕ, ◌*◌, ◌+◌, ◌≤◌, ◌<◌}
use native.Mathlib.Omega.{arith}
use lib.Dec.{eqb}
use Rattle.money.specs.Causes.{first_of}
use Rattle.money.specs.Days.{Calendar}
use Rattle.money.specs.Units.{sheet_fen}
use Rattle.rules.specs.Book.{Book, answer, fresh_book}
use Rattle.rules.specs.Unpaid.{unpaid_sum, unpaid_of, cleared_plus}
use Rattle.rules.specs.Trades.{Trade, outstanding, remaining}
use Rattle.rules.specs.Vault.{value, outstanding_of}
use Rattle.rules.specs.Entry.{Event, Open, FundIn, FundOut, Size, Rate, Pledge, Freeze, Withdraw, Initial, Early, Pay, Close, Post, Entry, Some}
use Rattle.rules.specs.Open.{turns_terminated, fallback_sum, opened_book}
use Rattle.rules.specs.Funds.{funded_in, funded_out}
use Rattle.rules.specs.Size.{sized}
use Rattle.rules.specs.Rate.{rated}
use Rattle.rules.specs.Pledge.{pledged}
use Rattle.rules.specs.Freeze.{frozen}
use Rattle.rules.specs.Withdraw.{withdrawn}
use Rattle.rules.specs.Initial.{initial_book}
use Rattle.rules.specs.Early.{early_book}
use Rattle.rules.specs.Pay.{fails, after_pay, pay_number}
use Rattle.rules.specs.Post.{posted}
use Rattle.rules.specs.Close.{Evening, left_trades, unpaid_at_close, claims_of, may_go, settle_one, settled, served, evening, claims_at_close, closed_table, closed_book, close_answer}
use Rattle.rules.specs.Redeemed.{amount_redeemed}
use Rattle.rules.specs.Step.{Outcome, outcome, causes, act, refuse_or, step, accepted}
use Rattle.rules.specs.Run.{see, run}
use Rattle.rules.specs.Demand3.{All, is_pay, number, seen_from}
use Rattle.rules.proofs.TradeLaws.{take-packed, outstanding-remaining}
use Rattle.rules.proofs.Answers.{turned_down, accepted-only-where-none-applies}
use Rattle.rules.proofs.EveningFit.{gone, over-evening}

-- ---- what is redeemed joins U: of every accepted event but a payment that was made

act-grows : (calendar : Calendar) (book : Book) (table : List Trade) (event : Event) → (is_pay (Some event) && eqb (act calendar book table event).answer.number 0) ≡ false
    → unpaid_of (act calendar book table event).book ≡ unpaid_of book + amount_redeemed calendar book table event
unfolding act opened_book funded_in funded_out sized rated pledged frozen withdrawn initial_book early_book after_pay closed_book close_answer posted
act-grows calendar book table Open other = go (turns_terminated book.standing)
  where
    go : (ends : Bool) → unpaid_sum (cond ends (cleared_plus (fallback_sum calendar book table) book.sums.unpaid) book.sums.unpaid)
        ≡ unpaid_of book + cond ends (fallback_sum calendar book table) 0
    go true = omega arith
    go false = omega arith
act-grows calendar book table (FundIn account amount) other = omega arith
act-grows calendar book table (FundOut account amount) other = omega arith
act-grows calendar book table (Size size) other = omega arith
act-grows calendar book table (Rate kind rate) other = omega arith
act-grows calendar book table (Pledge kind units) other = omega arith
act-grows calendar book table (Freeze kind units) other = omega arith
act-grows calendar book table (Withdraw kind units) other = omega arith
act-grows calendar book table (Initial terms) other = omega arith
act-grows calendar book table (Early contract count price) other = omega arith
act-grows calendar book table Pay other = go (fails book) other
  where
    go : (failing : Bool) → eqb (pay_number failing) 0 ≡ false → unpaid_of (after_pay failing book) ≡ unpaid_of book + 0
    go true other = omega arith
    go false other = let z : ◌≡◌ {A = ℕ} 0 1 = cc in absurd (omega arith)
act-grows calendar book table Close other = omega arith
act-grows calendar book table (Post product posting) other = omega arith

pub unpaid-grows : (calendar : Calendar) (book : Book) (table : List Trade) (event : Event)
    → let after = step calendar book table (Some event) in
    accepted after.answer.number ≡ true → (is_pay (Some event) && eqb after.answer.number 0) ≡ false
    → unpaid_of after.book ≡ unpaid_of book + amount_redeemed calendar book table event
unfolding step
unpaid-grows calendar book table event done other =
    let clear = accepted-only-where-none-applies calendar book table (Some event) done in
    rw clear (act-grows calendar book table event (rw clear at other))

-- ---- "Pay made sets the cleared part to 0 and keeps the part of today."

module _ (calendar : Calendar) (book : Book) (table : List Trade) where
  -- what Pay leaves, by the cause that applies and by whether it fails
  abbrev after-pay : Option ℕ → (failing : Bool) → Outcome
  after-pay cause failing = refuse_or cause book table (outcome (answer (pay_number failing)) (after_pay failing book) table)

  pub pay-clears : let after = step calendar book table (Some Pay) in
      after.answer.number ≡ 0 → (after.book.sums.unpaid.cleared.0 ≡ 0) × (after.book.sums.unpaid.today ≡ book.sums.unpaid.today)
  unfolding step act after_pay
  pay-clears made = go (first_of (causes calendar book table (Some Pay))) refl (fails book) made
    where
      go : (cause : Option ℕ) → first_of (causes calendar book table (Some Pay)) ≡ cause → (failing : Bool) → (after-pay cause failing).answer.number ≡ 0
          → ((after-pay cause failing).book.sums.unpaid.cleared.0 ≡ 0) × ((after-pay cause failing).book.sums.unpaid.today ≡ book.sums.unpaid.today)
      go none e false made = (refl, refl)
      go none e true made = absurd (omega arith)
      go (some n) e failing made =
          let refused = turned_down calendar book table (Some Pay) n e in
          let not-0 : accepted 0 ≡ false = rw made at refused in
          let z : ◌≡◌ {A = ℕ} 0 1 = cc in absurd (omega arith)

  -- one that is not made, failed or refused, keeps both parts
  pub pay-not-made : let after = step calendar book table (Some Pay) in (after.answer.number ≡ 0 → ⊥) → after.book.sums.unpaid ≡ book.sums.unpaid
  unfolding step act after_pay
  pay-not-made other = go (first_of (causes calendar book table (Some Pay))) (fails book) other
    where
      go : (cause : Option ℕ) (failing : Bool) → ((after-pay cause failing).answer.number ≡ 0 → ⊥) → (after-pay cause failing).book.sums.unpaid ≡ book.sums.unpaid
      go none false other = absurd (other refl)
      go none true other = refl
      go (some n) failing other = refl

-- over every list of entries, from a fresh book too: right after a Pay that was made, U's cleared part is 0
run-clears : (calendar : Calendar) (book : Book) (table : List Trade) (entries : List Entry)
    → All (λ seen. seen.entry ≡ Some Pay → number seen ≡ 0 → seen.left.book.sums.unpaid.cleared.0 ≡ 0) (run calendar book table entries)
unfolding run
run-clears calendar book table [] = tt
run-clears calendar book table (entry ∷ entries) = (
  cleared entry,
  run-clears calendar (step calendar book table entry).book (step calendar book table entry).table entries,
)
  where
    cleared : (entry : Entry) → entry ≡ Some Pay → number (see calendar book table entry) ≡ 0 → (step calendar book table entry).book.sums.unpaid.cleared.0 ≡ 0
    cleared entry pays made = rw pays (pay-clears calendar book table (rw pays at made)).0

pub paid-and-cleared : (calendar : Calendar) (table : List Trade) (entries : List Entry)
    → All (λ seen. seen.entry ≡ Some Pay → number seen ≡ 0 → seen.left.book.sums.unpaid.cleared.0 ≡ 0) (seen_from calendar table entries)
paid-and-cleared calendar table entries = run-clears calendar fresh_book table entries

-- ---- an evening that lets anything go leaves outstanding sheets and U covered

abbrev DoneCovered : (claims : ℕ) → Evening → Type 0
DoneCovered claims evening = 0 < evening.done → claims ≤ sheet_fen * value evening.vault

settled-covered : (served : Bool) (claims kind units : ℕ) (e : Evening) → DoneCovered claims e → DoneCovered claims (settled served claims kind units e)
settled-covered served claims kind units e before = go (may_go served claims kind units e.vault) refl
  where
    go : (goes : Bool) → may_go served claims kind units e.vault ≡ goes → DoneCovered claims (settle_one goes kind units e)
    go true m = λ _. (gone served claims kind units e.vault m).covered
    go false m = before

pub evening-covered : (book : Book) (claims : ℕ) → DoneCovered claims (evening book claims)
evening-covered book claims =
    over-evening book claims (DoneCovered claims) (λ kind units e before. settled-covered (served book.standing) claims kind units e before) (λ none-went. absurd (omega arith))

-- the pledge answers for the O and the U of what a call leaves
abbrev Covered : Outcome → Type 0
Covered left = sheet_fen * outstanding_of left.book left.table + unpaid_of left.book ≤ sheet_fen * value left.book.vault

closed-covered : (calendar : Calendar) (book : Book) (left table : List Trade) → 0 < (close_answer calendar book left table).done
    → Covered (outcome (close_answer calendar book left table) (closed_book calendar book left table) (closed_table book left table))
unfolding close_answer closed_book closed_table claims_at_close
closed-covered calendar book left table some-went =
    rw (take-packed book.trades (remaining left) table, outstanding-remaining left)
    (omega (arith, evening-covered book (claims_of (outstanding left) (unpaid_sum (unpaid_at_close calendar book table))) some-went))

-- so it does after a Close that let anything go
pub close-covered : (calendar : Calendar) (book : Book) (table : List Trade) → 0 < (step calendar book table (Some Close)).answer.done → Covered (step calendar book table (Some Close))
unfolding step act
close-covered calendar book table some-went = go (first_of (causes calendar book table (Some Close))) some-went
  where
    go : (cause : Option ℕ) → 0 < (refuse_or cause book table (act calendar book table Close)).answer.done → Covered (refuse_or cause book table (act calendar book table Close))
    go none some-went = closed-covered calendar book (left_trades calendar book table) table some-went
    go (some n) some-went = absurd (omega arith)
