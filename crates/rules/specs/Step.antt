-- One event on one book: its causes in order, and where none applies what it does. (01, Twelve events; Turned-down events)
-- Assumes nothing.
use Rattle.std.specs.Prelude.{ℕ, Bool, true, not, ◌||◌, List, [], ◌∷◌, ltb, eqb, length}
use Rattle.std.proofs.Math.Option.{Option, none, some}
use Rattle.money.specs.Limits.{calendar_limit}
use Rattle.money.specs.Causes.{Cause, ◌⇒◌, first_of}
use Rattle.money.specs.Days.{Calendar}
use Rattle.rules.specs.Book.{Book, Answer, answer}
use Rattle.rules.specs.Trades.{Trade}
use Rattle.rules.specs.Fit.{fit}
use Rattle.rules.specs.Entry.{Event, Open, FundIn, FundOut, Size, Rate, Pledge, Freeze, Withdraw, Initial, Early, Pay, Close, Post, Entry, Some, None, entry_number}
use Rattle.rules.specs.Open.{open_causes, opened_book, opened_table}
use Rattle.rules.specs.Funds.{fund_in_causes, funded_in, fund_out_causes, funded_out}
use Rattle.rules.specs.Size.{size_causes, sized}
use Rattle.rules.specs.Rate.{rate_causes, rated}
use Rattle.rules.specs.Pledge.{pledge_causes, pledged}
use Rattle.rules.specs.Freeze.{freeze_causes, frozen}
use Rattle.rules.specs.Withdraw.{withdraw_causes, withdrawn}
use Rattle.rules.specs.Initial.{initial_causes, initial_book, initial_table}
use Rattle.rules.specs.Early.{early_causes, early_book, early_table}
use Rattle.rules.specs.Pay.{pay_causes, fails, after_pay, pay_number}
use Rattle.rules.specs.Post.{post_causes, posted}
use Rattle.rules.specs.Close.{left_trades, close_causes, close_answer, closed_book, closed_table}

-- what a call leaves: its answer, the book and the table
pub record Outcome : Type 0 where
  pub answer : Answer
  pub book : Book
  pub table : List Trade

abbrev pub outcome : Answer → Book → List Trade → Outcome
outcome answer book table = record { answer = answer; book = book; table = table }

-- the causes of an event on a fit book
unfoldable pub event_causes : Calendar → Book → List Trade → Event → List Cause
event_causes calendar book table Open = open_causes calendar book table
event_causes calendar book table (FundIn account amount) = fund_in_causes book account amount
event_causes calendar book table (FundOut account amount) = fund_out_causes book account amount
event_causes calendar book table (Size size) = size_causes book table size
event_causes calendar book table (Rate kind rate) = rate_causes kind rate
event_causes calendar book table (Pledge kind units) = pledge_causes book kind units
event_causes calendar book table (Freeze kind units) = freeze_causes book kind units
event_causes calendar book table (Withdraw kind units) = withdraw_causes book kind units
event_causes calendar book table (Initial terms) = initial_causes calendar book table terms
event_causes calendar book table (Early contract count price) = early_causes calendar book table contract count price
event_causes calendar book table Pay = pay_causes book
event_causes calendar book table Close = close_causes calendar book table
event_causes calendar book table (Post product posting) = post_causes book product posting

-- what does not decode has its own number
abbrev pub entry_causes : Calendar → Book → List Trade → Entry → List Cause
entry_causes calendar book table (Some event) = event_causes calendar book table event
entry_causes calendar book table None = (true ⇒ entry_number None) ∷ []

-- "book not fit, or calendar above 1,200 words" is 1
abbrev pub unfit : Calendar → Book → List Trade → Bool
unfit calendar book table = not (fit calendar book table) || ltb calendar_limit (length calendar)

unfoldable pub causes : Calendar → Book → List Trade → Entry → List Cause
causes calendar book table entry = (unfit calendar book table ⇒ 1) ∷ entry_causes calendar book table entry

-- what an event does where no cause applies; "Done is 0."
unfoldable pub act : Calendar → Book → List Trade → Event → Outcome
act calendar book table Open = outcome (answer 0) (opened_book calendar book table) (opened_table book table)
act calendar book table (FundIn account amount) = outcome (answer 0) (funded_in book account amount) table
act calendar book table (FundOut account amount) = outcome (answer 0) (funded_out book account amount) table
act calendar book table (Size size) = outcome (answer 0) (sized book size) table
act calendar book table (Rate kind rate) = outcome (answer 0) (rated book kind rate) table
act calendar book table (Pledge kind units) = outcome (answer 0) (pledged book kind units) table
act calendar book table (Freeze kind units) = outcome (answer 0) (frozen book kind units) table
act calendar book table (Withdraw kind units) = outcome (answer 0) (withdrawn book kind units) table
act calendar book table (Initial terms) = outcome (answer 0) (initial_book book terms) (initial_table calendar book table terms)
act calendar book table (Early contract count price) =
    outcome (answer 0) (early_book calendar book table contract count price) (early_table book table contract count)
act calendar book table Pay = outcome (answer (pay_number (fails book))) (after_pay (fails book) book) table
act calendar book table Close =
    let left = left_trades calendar book table in
    outcome (close_answer calendar book left table) (closed_book calendar book left table) (closed_table book left table)
act calendar book table (Post product posting) = outcome (answer 0) (posted book product posting) table

abbrev pub act_on : Calendar → Book → List Trade → Entry → Outcome
act_on calendar book table (Some event) = act calendar book table event
-- never asked: 2 applies
act_on calendar book table None = outcome (answer 0) book table

-- a refused call leaves the book and the table as they were
abbrev pub refuse_or : Option ℕ → Book → List Trade → Outcome → Outcome
refuse_or none book table done = done
refuse_or (some number) book table done = outcome (answer number) book table

unfoldable pub step : Calendar → Book → List Trade → Entry → Outcome
step calendar book table entry = refuse_or (first_of (causes calendar book table entry)) book table (act_on calendar book table entry)

-- "Done is 0. Answer 99 is an accepted event."
abbrev pub accepted : ℕ → Bool
accepted number = eqb number 0 || eqb number 99
