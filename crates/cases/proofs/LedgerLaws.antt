-- Eight events on a fresh book with four slots, computed: each is accepted, and the trade stands in the first slot.
-- For the proofs of structs.rt. Assumes nothing.
use Rattle.std.specs.Prelude.{◌≡◌, ℕ, zero, suc, ◌+◌, ◌<◌, ◌≤◌, List, [], ◌∷◌, get_or, replicate}
use mathlib.Core.Path.{refl}
use native.Mathlib.Numerals.{add-one}
use native.Mathlib.Omega.{arith}
use Rattle.rules.specs.declared.book.Book.{Book}
use Rattle.rules.specs.declared.event.Event.{Event}
use Rattle.rules.specs.declared.event.Event.TheVariants.{Open, Size, Rate, Pledge, Pay, Close, Initial}
use Rattle.std.specs.Prelude.{Some}
use Rattle.rules.specs.declared.trade.Terms.{Terms}
use Rattle.rules.specs.declared.trade.Trade.{Trade}
use Rattle.rules.specs.Book.{answer, fresh_book}
use Rattle.rules.specs.Trades.{no_trade}
use Rattle.rules.specs.Step.{step}
use Rattle.cases.specs.declared.structs.Ledger.{Ledger}
use Rattle.cases.specs.Ledger.{ledger_of}
use Rattle.cases.specs.Journal.{ends_with}

abbrev terms : Terms
terms = record { contract = record { 0 = 7 }; sheets = record { 0 = 100 }; price = record { 0 = 3650 }; fallback = record { 0 = 1000 }; due = 4; product = 0 }

abbrev pub events : List Event
events = Size (record { 0 = 1000 }) ∷ Rate 0 9000 ∷ Open ∷ Pledge 0 200 ∷ Pay ∷ Close ∷ Open ∷ Initial terms ∷ []

-- after so many of them
unfoldable pub reached : ℕ → Ledger
reached zero = record { answer = answer 0; book = fresh_book; table = replicate 4 no_trade }
reached (suc k) = ledger_of (step (206 ∷ []) (reached k).book (reached k).table (Some (get_or events k Open)))

pub record Done (k : ℕ) (book : Book) (table : List Trade) : Type 0 where
  pub few : k ≤ 8
  pub book-is : book ≡ (reached k).book
  pub table_is : table ≡ (reached k).table

pub onward : (k : ℕ) (book : Book) (table : List Trade) → Done k book table → ledger_of (step (206 ∷ []) book table (Some (get_or events k Open))) ≡ reached (k + 1)
unfolding reached
onward k book table d = rw (add-one, d.book-is, d.table_is) refl

pub accepted : (k : ℕ) → k < 8 → (reached (k + 1)).answer.number ≡ 0
unfolding ends_with reached
accepted zero h = refl
accepted (suc zero) h = refl
accepted (suc (suc zero)) h = refl
accepted (suc (suc (suc zero))) h = refl
accepted (suc (suc (suc (suc zero)))) h = refl
accepted (suc (suc (suc (suc (suc zero))))) h = refl
accepted (suc (suc (suc (suc (suc (suc zero)))))) h = refl
accepted (suc (suc (suc (suc (suc (suc (suc zero))))))) h = refl
accepted (suc (suc (suc (suc (suc (suc (suc (suc k)))))))) h = absurd (omega (arith, h))

-- traded on day 2, so paid first on day 3
abbrev pub asked : Trade
asked = record { contract = record { 0 = 7 }; sheets = record { 0 = 100 }; price = record { 0 = 3650 }; fallback = record { 0 = 1000 }; first = 3; due = 4; product = 0 }

pub first_slot : get_or (reached 8).table 0 no_trade ≡ asked
unfolding ends_with reached
first_slot = refl
