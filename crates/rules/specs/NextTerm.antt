-- "At Close, between its parts (a) and (b), the trades just matured that have a product follow in table order." (02, ask 4; art. 30)
-- Assumes nothing.
use Rattle.std.specs.Prelude.{ℕ, ◌+◌, Bool, true, false, cond, not, List, [], ◌∷◌, eqb, ℤ, pos}
use Rattle.std.specs.Int.Signed.{lt_z}
use Rattle.money.specs.Units.{sheets}
use Rattle.money.specs.Days.{Calendar}
use Rattle.rules.specs.Folds.{every}
use Rattle.rules.specs.Book.{Posting, Book, is_normal, posting_of, is_posted}
use Rattle.rules.specs.Days.{today, payment_day}
use Rattle.rules.specs.Trades.{Trade, maturing, matured}
use Rattle.rules.specs.Vault.{value, headroom_of}
use Rattle.rules.specs.Initial.{bad_due}

-- what is posted today for a trade's product
abbrev pub posting_for : Book → Trade → Posting
posting_for book trade = posting_of book trade.product

-- "today as its day and term days later as due"
abbrev pub next_due : Book → Trade → ℕ
next_due book trade = today book + (posting_for book trade).term

-- "Each starts again with its matured sheets, contract and product, at the posted prices, today as its day and term days later as due."
-- "its first payment day is today's payment day, and its sheets need not be a multiple of 10"
abbrev pub next_term : Calendar → Book → Trade → Trade
next_term calendar book trade = record {
  contract = trade.contract;
  sheets = sheets (maturing (today book) trade);
  price = (posting_for book trade).price;
  fallback = (posting_for book trade).fallback;
  first = payment_day calendar book.standing.day;
  due = next_due book trade;
  product = trade.product;
}

-- "Headroom is the smaller of S and V, less O" (01), as a trade is looked at: V before (c), and O with the terms started before it
abbrev pub headroom_at_start : Book → (outstanding : ℕ) → ℤ
headroom_at_start book outstanding = headroom_of book.size.0 (value book.vault) outstanding

-- "It does so only where sheets were left to mature, the status is normal, the product was posted today, the due day passes rule 9 and
-- headroom suffices"
unfoldable pub starts : Calendar → Book → (outstanding : ℕ) → Trade → Bool
starts calendar book outstanding trade =
    every
    (not (eqb (maturing (today book) trade) 0)
    ∷ is_normal book.standing.status
    ∷ is_posted (posting_for book trade)
    ∷ not (bad_due calendar (today book) (next_due book trade))
    ∷ not (lt_z (headroom_at_start book outstanding) (pos (maturing (today book) trade)))
    ∷ [])

-- "A started term counts as an initial trade … in the headroom rule": O with a term that started
abbrev pub with_started : (started : Bool) → Book → Trade → (outstanding : ℕ) → ℕ
with_started started book trade outstanding = cond started (outstanding + maturing (today book) trade) outstanding

-- "It takes the old record's slot, whatever the order of acceptance"; "otherwise it stays matured"
abbrev pub in_slot : (started : Bool) → Calendar → Book → Trade → Trade
in_slot started calendar book trade = cond started (next_term calendar book trade) (matured (today book) trade)

-- "in table order": every slot in use as (b) begins, O being at first that of the trades matured
unfoldable pub left_from : Calendar → Book → (outstanding : ℕ) → List Trade → List Trade
left_from calendar book outstanding [] = []
left_from calendar book outstanding (trade ∷ trades) =
    let started = starts calendar book outstanding trade in
    in_slot started calendar book trade ∷ left_from calendar book (with_started started book trade outstanding) trades

-- "which ones started, with their records", in the same order
abbrev pub if_started : (started : Bool) → Trade → List Trade → List Trade
if_started true term terms = term ∷ terms
if_started false term terms = terms

unfoldable pub started_from : Calendar → Book → (outstanding : ℕ) → List Trade → List Trade
started_from calendar book outstanding [] = []
started_from calendar book outstanding (trade ∷ trades) =
    let started = starts calendar book outstanding trade in
    if_started started (next_term calendar book trade) (started_from calendar book (with_started started book trade outstanding) trades)
