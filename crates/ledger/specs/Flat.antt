-- How the core lays out its table, five numbers a trade, and its book, scalars and rows: what `Lent` reads numbers by. Promises of other calls
-- cite this layout and `applied_of`; all else serves private contracts. No rule of document 01 stands here.
-- Assumes nothing.
use Rattle.std.specs.Prelude.{◌≡◌, ℕ, zero, suc, ◌+◌, ◌*◌, ◌/◌, ◌%◌, ◌<◌, ◌≤◌, true, false, List, [], ◌∷◌, ◌++◌, map, length, nat_le, slice_index}
use Rattle.std.proofs.Math.Option.{Option, none, some}
use Rattle.money.specs.Limits.{calendar_limit, price_limit, term_limit}
use Rattle.money.specs.declared.units.Ticks.{Ticks}
use Rattle.money.specs.Units.{sheets, ticks}
use Rattle.money.specs.Days.{Calendar}
use Rattle.rules.specs.Limits.{capacity_limit, product_limit}
use Rattle.rules.specs.Book.{answer, is_closed}
use Rattle.rules.specs.Days.{following, followed}
use Rattle.rules.specs.Open.{turns_terminated, opened_standing}
use Rattle.rules.specs.Pay.{fails, after_pay, pay_number}
use Rattle.rules.specs.Close.{Evening, close_answer, closed_book}
use Rattle.rules.specs.Step.{Outcome}
use Rattle.rules.specs.Trades.{same, on_table}
use Rattle.rules.specs.Fit.{securities_fit, cash_fit, withdrawals_fit, trade_fit, all_trades, fit}
use Rattle.ledger.specs.Types.{Security, Posting, Standing, Guarantee, Vault, Book, Applied, Contract, Trade}
use Rattle.scalars.specs.declared.state.Scalars.{Scalars}
use Rattle.scalars.specs.declared.done.Done.{Done}
use Rattle.ledger.specs.declared.evening.EveningScalars.{EveningScalars}

-- how many numbers a trade takes
abbrev pub width : ℕ
width = 5

-- a table has so many slots, and one at a place
abbrev pub HasSlots : List ℕ → (count : ℕ) → Type 0
HasSlots table count = count * width ≤ length table

abbrev pub HasSlot : List ℕ → (place : ℕ) → Type 0
HasSlot table place = place * width + 4 < length table

-- one row holds the securities and what is posted: how many numbers a security takes and a posting, where the first posting stands,
-- and how long the row is, with 32 securities and 16 postings
abbrev pub security_width : ℕ
security_width = 4

abbrev pub posting_width : ℕ
posting_width = 2

abbrev pub postings_from : ℕ
postings_from = 128

abbrev pub held_length : ℕ
held_length = 160

-- a number of the trade at a place
abbrev pub word : List ℕ → (place field : ℕ) → ℕ
word table place field = slice_index table (place * width + field)

-- prices and days have 32 bits, two to a number
abbrev pub lower : ℕ → ℕ
lower number = number % 4294967296

abbrev pub upper : ℕ → ℕ
upper number = number / 4294967296 % 4294967296

unfoldable pub trade_at : List ℕ → ℕ → Trade
trade_at table place = record {
  contract = record { 0 = slice_index table (place * width) };
  sheets = sheets (word table place 1);
  price = ticks (lower (word table place 2));
  fallback = ticks (upper (word table place 2));
  first = lower (word table place 3);
  due = upper (word table place 3);
  product = word table place 4;
}

-- the first trades of the table, and all of them
unfoldable pub trades_to : List ℕ → ℕ → List Trade
trades_to table zero = []
trades_to table (suc count) = trades_to table count ++ (trade_at table count ∷ [])

abbrev pub capacity : List ℕ → ℕ
capacity table = length table / width

abbrev pub trades_of : List ℕ → List Trade
trades_of table = trades_to table (capacity table)

-- ---- the rows beside the scalars: the securities, four numbers each, with the postings, two each, and the applications

unfoldable pub security_in : List ℕ → ℕ → Security
security_in held kind = record {
  effective = slice_index held (kind * security_width);
  arriving = slice_index held (kind * security_width + 1);
  frozen = slice_index held (kind * security_width + 2);
  rate = slice_index held (kind * security_width + 3);
}

-- f 0, f 1, … and f (count - 1)
unfoldable pub up_to : {A : Type 0} → (ℕ → A) → ℕ → List A
up_to f zero = []
up_to f (suc count) = up_to f count ++ (f count ∷ [])

abbrev pub securities_of : List ℕ → List Security
securities_of held = up_to (security_in held) 32

unfoldable pub posting_in : List ℕ → ℕ → Posting
posting_in held number = record {
  term = slice_index held (postings_from + number * posting_width);
  price = ticks (lower (slice_index held (postings_from + number * posting_width + 1)));
  fallback = ticks (upper (slice_index held (postings_from + number * posting_width + 1)));
}

abbrev pub postings_of : List ℕ → List Posting
postings_of held = up_to (posting_in held) product_limit

pub record Rows : Type 0 where
  pub securities : List Security
  pub postings : List Posting
  pub kinds : List ℕ
  pub units : List ℕ

abbrev pub rows_of : (held kinds units : List ℕ) → Rows
rows_of held kinds units = record { securities = securities_of held; postings = postings_of held; kinds = kinds; units = units }

abbrev pub vault_of : Guarantee → List Security → Vault
vault_of guarantee securities = record { guarantee = guarantee; securities = securities }

-- the book that scalars and rows are, and the scalars of a book
abbrev pub book_of : Scalars → Rows → Book
book_of scalars rows = record {
  nets = scalars.nets;
  sums = scalars.sums;
  cash = scalars.cash;
  vault = vault_of scalars.guarantee rows.securities;
  size = scalars.size;
  standing = scalars.standing;
  withdrawals = record { kinds = rows.kinds; units = rows.units; count = scalars.applications };
  postings = rows.postings;
  trades = scalars.trades;
}

abbrev pub scalars_of : Book → Scalars
scalars_of book = record {
  nets = book.nets;
  sums = book.sums;
  cash = book.cash;
  guarantee = book.vault.guarantee;
  size = book.size;
  standing = book.standing;
  applications = book.withdrawals.count;
  trades = book.trades;
}

-- what an event leaves, and the evening, with their rows
abbrev pub applied_at : Done → Rows → Applied
applied_at done rows = record { answer = done.answer; book = book_of done.scalars rows }

abbrev pub evening_at : EveningScalars → List Security → Evening
evening_at ended securities = record { own = ended.own; vault = vault_of ended.guarantee securities; done = ended.done; dropped = ended.dropped }

-- what the core may rely on: a calendar within its limit, and rows that make the scalars a fit book
pub record FitsWhole (calendar : Calendar) (scalars : Scalars) (held kinds units : List ℕ) (table : List Trade) : Type 0 where
  pub few : length calendar ≤ calendar_limit
  pub fits : fit calendar (book_of scalars (rows_of held kinds units)) table ≡ true

-- the same where it has the row of securities and postings only, and where it has no rows: some rows make it so
pub record FitsHeld (calendar : Calendar) (scalars : Scalars) (held : List ℕ) (table : List Trade) : Type 0 where
  pub kinds : List ℕ
  pub units : List ℕ
  pub few : length calendar ≤ calendar_limit
  pub fits : fit calendar (book_of scalars (rows_of held kinds units)) table ≡ true

pub record Fits (calendar : Calendar) (scalars : Scalars) (table : List Trade) : Type 0 where
  pub rows : Rows
  pub few : length calendar ≤ calendar_limit
  pub fits : fit calendar (book_of scalars rows) table ≡ true

-- a contract's trade stands at a place: the first of so many trades that has the contract
pub record StandsAt (table : List ℕ) (count : ℕ) (contract : Contract) (place : ℕ) : Type 0 where
  pub below : place < count
  pub here : same (trade_at table place).contract contract ≡ true
  pub first : on_table contract (trades_to table place) ≡ false

-- the contracts of trades, by their numbers
abbrev pub contract_numbers : List Trade → List ℕ
contract_numbers trades = map (λ trade. trade.contract.0) trades

-- ---- what the core may rely on

-- the trades in use stand in the table, within their limits
pub record Kept (table : List ℕ) (count : ℕ) : Type 0 where
  pub room : HasSlots table count
  pub few : count ≤ capacity_limit
  pub within : all_trades trade_fit (trades_to table count) ≡ true

-- and can be redeemed on a day that is paid on `payment`
pub record Redeemable (table : List ℕ) (count payment : ℕ) : Type 0 where
  pub kept : Kept table count
  pub begun : all_trades (λ trade. nat_le trade.first payment) (trades_to table count) ≡ true
  pub term : payment ≤ term_limit

-- Open: there is a day to go to, and this is how the firm stands on it
pub record Opening (calendar : Calendar) (scalars : Scalars) (table : List Trade) (after : Standing) : Type 0 where
  pub book : Fits calendar scalars table
  pub follows : followed calendar (following calendar scalars.standing.day) ≡ true
  pub opened : after ≡ opened_standing calendar scalars.standing

-- and its permission ends there
pub record Ending (calendar : Calendar) (scalars : Scalars) (table : List Trade) (after : Standing) : Type 0 where
  pub opening : Opening calendar scalars table after
  pub closed : is_closed scalars.standing.phase ≡ true
  pub ended : turns_terminated scalars.standing ≡ true

-- Early: a trade in use at a place, and a price within its limit
pub record Running (calendar : Calendar) (scalars : Scalars) (table : List ℕ) (place : ℕ) (price : Ticks) : Type 0 where
  pub book : Fits calendar scalars (trades_of table)
  pub below : place < scalars.trades
  pub cheap : price.0 ≤ price_limit

-- Withdraw and Close: rows that are fit, and the cash
pub record RowsFit (scalars : Scalars) (held kinds units : List ℕ) : Type 0 where
  pub withdrawals : withdrawals_fit (record { kinds = kinds; units = units; count = scalars.applications }) ≡ true
  pub securities : securities_fit (vault_of scalars.guarantee (securities_of held)) ≡ true
  pub cash : cash_fit scalars.cash scalars.guarantee ≡ true

-- ---- what an event gives back, by the cause that applies: what it does, or the number and the book as it was

abbrev pub given_by : Option ℕ → Book → Applied → Applied
given_by none before done = done
given_by (some number) before done = record { answer = answer number; book = before }

-- the table of an event that may change it
abbrev pub table_by : Option ℕ → (before after : List Trade) → List Trade
table_by none before after = after
table_by (some number) before after = before

-- "Done is 0."
abbrev pub applied_by : Option ℕ → (before after : Book) → Applied
applied_by cause before after = given_by cause before (record { answer = answer 0; book = after })

-- Pay answers 99 where it fails, and then changes the book too
abbrev pub paid_by : Option ℕ → Book → Applied
paid_by cause before = given_by cause before (record { answer = answer (pay_number (fails before)); book = after_pay (fails before) before })

-- Close carries its figures in the answer; `left` are the trades in use as its part (b) begins
abbrev pub closed_by : Option ℕ → Calendar → Book → (left table : List Trade) → Applied
closed_by cause calendar before left table =
    given_by cause before (record { answer = close_answer calendar before left table; book = closed_book calendar before left table })

-- what a step gives back beside the table
abbrev pub applied_of : Outcome → Applied
applied_of outcome = record { answer = outcome.answer; book = outcome.book }
