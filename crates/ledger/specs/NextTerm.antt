-- What next terms look at of a Close, the same for every trade: for private contracts. It states no rule.
-- Assumes nothing.
use Rattle.std.specs.Prelude.{◌≡◌, ℕ, ◌*◌, ◌<◌, ◌≤◌, true, false, List, length, Option}
use Rattle.money.specs.Limits.{calendar_limit, term_limit, trade_limit}
use Rattle.money.specs.Days.{Calendar}
use Rattle.money.specs.Units.{fen, sheets}
use Rattle.rules.specs.Limits.{capacity_limit, product_limit}
use Rattle.rules.specs.Book.{is_normal}
use Rattle.rules.specs.Days.{today, payment_day}
use Rattle.rules.specs.Trades.{outstanding as outstanding_of}
use Rattle.rules.specs.Vault.{value}
use Rattle.rules.specs.Fit.{postings_fit, trade_fit}
use Rattle.rules.specs.NextTerm.{starts}
use Rattle.rules.specs.Close.{matured_sheets, matured_amount, outstanding_matured, left_trades, started_principal}
use Rattle.ledger.specs.Types.{Book, Trade, Some, None}
use Rattle.ledger.specs.Redemption.{amount_bound}
use Rattle.ledger.specs.Flat.{HasSlot, trade_at, postings_of}
pub use Rattle.ledger.specs.declared.next_term.Closing.{Closing}
pub use Rattle.ledger.specs.declared.next_term.Plan.{Plan}

-- the book that Close meets where a next term may start: what is told of it, V too
pub record Meets (calendar : Calendar) (book : Book) (closing : Closing) (held : List ℕ) : Type 0 where
  pub today : closing.today ≡ today book
  pub payment : closing.payment ≡ payment_day calendar book.standing.day
  pub normal : is_normal book.standing.status ≡ true
  pub size : closing.size ≡ book.size
  pub postings : postings_of held ≡ book.postings
  pub value : closing.value.0 ≡ value book.vault

-- and where none may
pub record MeetsNone (calendar : Calendar) (book : Book) (held : List ℕ) : Type 0 where
  pub postings : postings_of held ≡ book.postings
  pub none : (outstanding : ℕ) (trade : Trade) → trade.product ≤ product_limit → starts calendar book outstanding trade ≡ false

-- by whether one may
abbrev pub MeetsWhere : Calendar → Book → Option Closing → (held : List ℕ) → Type 0
MeetsWhere calendar book (Some closing) held = Meets calendar book closing held
MeetsWhere calendar book None held = MeetsNone calendar book held

-- what the code may rely on: some book that is met, a calendar within its limit, and fit postings
pub record Renewable (calendar : Calendar) (closing : Closing) (held : List ℕ) : Type 0 where
  pub book : Book
  pub met : Meets calendar book closing held
  pub few : length calendar ≤ calendar_limit
  pub posted : postings_fit (postings_of held) ≡ true
  pub day : closing.today < term_limit

-- where none may start, it needs nothing of the rest
abbrev pub RenewableWhere : Calendar → Option Closing → (held : List ℕ) → Type 0
RenewableWhere calendar (Some closing) held = Renewable calendar closing held
RenewableWhere calendar None held = Unit {0}

-- O of a full table of the largest trades, and more than O can be however many terms start
abbrev pub most_matured : ℕ
most_matured = capacity_limit * trade_limit

abbrev pub most_started : ℕ
most_started = 2 * most_matured

-- what Close plans before anything is written
pub record Planned (calendar : Calendar) (book : Book) (held : List ℕ) (table : List Trade) (plan : Plan) : Type 0 where
  pub matured : plan.matured ≡ sheets (matured_sheets book table)
  pub amount : plan.amount ≡ fen (matured_amount calendar book table)
  pub started : plan.started ≡ fen (started_principal calendar book table)
  pub outstanding : plan.outstanding.0 ≡ outstanding_matured book table
  pub left : plan.left.0 ≡ outstanding_of (left_trades calendar book table)
  pub today : plan.today ≡ today book
  pub met : MeetsWhere calendar book plan.closing held

-- and how large its numbers may be
pub record PlanWithin (plan : Plan) : Type 0 where
  pub amount : plan.amount.0 ≤ amount_bound
  pub started : plan.started.0 ≤ amount_bound
  pub outstanding : plan.outstanding.0 ≤ most_matured
  pub day : plan.today < term_limit

-- a trade within its limits stands at a place
pub record FitAt (table : List ℕ) (place : ℕ) : Type 0 where
  pub slot : HasSlot table place
  pub fits : trade_fit (trade_at table place) ≡ true
