-- Worked cases, each computed from the definitions that the promises cite: the journal of document 01, and M1 to M10.
-- Assumes nothing.
use mathlib.Core.Path.{◌≡◌, refl}
use mathlib.Core.List.{List, [], ◌∷◌, map}
use Prim.Native.Nat.{ℕ, ◌-◌}
use lib.IntN.{ℤ, pos}
use lib.ListN.{replicate}
use Rattle.money.specs.Units.{fen, sheets, ticks}
use Rattle.money.specs.Days.{Calendar}
use Rattle.money.specs.Money.{redemption_amount}
use Rattle.money.specs.Collateral.{kind_worth}
use Rattle.rules.specs.Book.{Status, Normal, Suspended, Terminated, Book, Answer, fresh_book}
use Rattle.rules.specs.Days.{today, payment_day}
use Rattle.rules.specs.Trades.{Trade, no_trade, in_use, trade_of}
use Rattle.rules.specs.Vault.{value, headroom}
use Rattle.rules.specs.Entry.{Own, Client, Open, FundIn, FundOut, Size, Rate, Pledge, Initial, Pay, Close, Entry, Some}
use Rattle.rules.specs.Step.{step}
use Rattle.rules.specs.Run.{last_book, last_table}
use Rattle.rules.specs.Demand3.{seen_from}
use Rattle.rules.specs.Listing.{line_of}
use Rattle.rules.proofs.Opened.{every_rule}

-- ---- the journal of document 01

-- days 1, 2, 3, 6 and 7 trade
abbrev pub week : Calendar
week = 206 ∷ []

abbrev pub no_trades : List Trade
no_trades = replicate 8 no_trade

abbrev pub initial : (count contract price fallback due : ℕ) → Entry
initial count contract price fallback due =
    Some (Initial (record { contract = record { 0 = contract }; sheets = sheets count; price = ticks price; fallback = ticks fallback; due = due; product = 0 }))

-- up to the second Open: cover of 180 sheets, no trade yet
abbrev pub cover180 : List Entry
cover180 =
    Some (Size (sheets 1000))
    ∷ Some (FundIn Own (fen 5000000))
    ∷ Some (FundIn Client (fen 3000000))
    ∷ Some (Rate 0 9000)
    ∷ Some Open
    ∷ Some (Pledge 0 200)
    ∷ Some Pay
    ∷ Some Close
    ∷ Some Open
    ∷ []

abbrev pub ◌then◌ : List Entry → List Entry → List Entry
[] then more = more
(entry ∷ entries) then more = entry ∷ (entries then more)

infixr 20 ◌then◌
abbrev pub journal : List Entry
journal =
    cover180
    then (initial 100 7 3650 1000 4 ∷ Some Pay ∷ Some Close ∷ Some Open ∷ [])
    then (initial 90 8 3650 1000 6 ∷ Some Pay ∷ Some Close ∷ [])

-- of each event: answer, headroom's sign and size, O, own, client, guarantee cash
abbrev listing : List (List ℕ)
listing =
    (0 ∷ 0 ∷ 0 ∷ 0 ∷ 0 ∷ 0 ∷ 0 ∷ [])
    ∷ (0 ∷ 0 ∷ 0 ∷ 0 ∷ 5000000 ∷ 0 ∷ 0 ∷ [])
    ∷ (0 ∷ 0 ∷ 0 ∷ 0 ∷ 5000000 ∷ 3000000 ∷ 0 ∷ [])
    ∷ (0 ∷ 0 ∷ 0 ∷ 0 ∷ 5000000 ∷ 3000000 ∷ 0 ∷ [])
    ∷ (0 ∷ 0 ∷ 0 ∷ 0 ∷ 5000000 ∷ 3000000 ∷ 0 ∷ [])
    ∷ (0 ∷ 0 ∷ 0 ∷ 0 ∷ 5000000 ∷ 3000000 ∷ 0 ∷ [])
    ∷ (0 ∷ 0 ∷ 0 ∷ 0 ∷ 5000000 ∷ 3000000 ∷ 0 ∷ [])
    ∷ (0 ∷ 0 ∷ 180 ∷ 0 ∷ 5000000 ∷ 3000000 ∷ 0 ∷ [])
    ∷ (0 ∷ 0 ∷ 180 ∷ 0 ∷ 5000000 ∷ 3000000 ∷ 0 ∷ [])
    ∷ (0 ∷ 0 ∷ 80 ∷ 100 ∷ 5000000 ∷ 3000000 ∷ 0 ∷ [])
    ∷ (0 ∷ 0 ∷ 80 ∷ 100 ∷ 5000000 ∷ 3000000 ∷ 0 ∷ [])
    ∷ (0 ∷ 0 ∷ 80 ∷ 100 ∷ 5000000 ∷ 3000000 ∷ 0 ∷ [])
    ∷ (0 ∷ 0 ∷ 80 ∷ 100 ∷ 5000000 ∷ 3000000 ∷ 0 ∷ [])
    ∷ (12 ∷ 0 ∷ 80 ∷ 100 ∷ 5000000 ∷ 3000000 ∷ 0 ∷ [])
    ∷ (0 ∷ 0 ∷ 80 ∷ 100 ∷ 6000000 ∷ 2000000 ∷ 0 ∷ [])
    ∷ (0 ∷ 0 ∷ 80 ∷ 100 ∷ 6000000 ∷ 2000000 ∷ 0 ∷ [])
    ∷ []

pub journal-gives-its-listing : map (λ seen. line_of seen.left) (seen_from week no_trades journal) ≡ listing
unfolding every_rule line_of
journal-gives-its-listing = refl

-- ---- M1 to M10

pub data Name : Type 0 where
  M1 : Name
  M2 : Name
  M3 : Name
  M4 : Name
  M5 : Name
  M6 : Name
  M7 : Name
  M8 : Name
  M9 : Name
  M10 : Name

-- a case of the paper: its name, the numbers that the definitions give, and those that the paper says
pub record Case : Type 0 where
  pub name : Name
  pub gives : List ℤ
  pub says : List ℤ

abbrev pub ◌is◌gives◌ : Name → List ℤ → List ℤ → Case
name is given gives said = record { name = name; gives = given; says = said }

infix 10 ◌is◌gives◌
-- the book and the table after a list, from a fresh book
abbrev pub after : Calendar → List Entry → Book
after calendar entries = last_book fresh_book (seen_from calendar no_trades entries)

abbrev pub table_after : Calendar → List Entry → List Trade
table_after calendar entries = last_table no_trades (seen_from calendar no_trades entries)

abbrev headroom_after : Calendar → List Entry → ℤ
headroom_after calendar entries = headroom (after calendar entries) (table_after calendar entries)

-- the answer to one more entry, by its number
abbrev pub answer_to : Calendar → List Entry → Entry → Answer
answer_to calendar entries entry = (step calendar (after calendar entries) (table_after calendar entries) entry).answer

abbrev number_to : Calendar → List Entry → Entry → ℤ
number_to calendar entries entry = pos (answer_to calendar entries entry).number

abbrev status_number : Status → ℕ
status_number Normal = 0
status_number Suspended = 1
status_number Terminated = 2

abbrev status_after : Calendar → List Entry → ℤ
status_after calendar entries = pos (status_number (after calendar entries).standing.status)

-- two kinds of 5 units at 9,000 that have arrived
abbrev two_kinds : List Entry
two_kinds =
    Some (Rate 0 9000) ∷ Some (Rate 1 9000) ∷ Some Open ∷ Some (Pledge 0 5) ∷ Some (Pledge 1 5) ∷ Some Pay ∷ Some Close ∷ []

-- day 6, paid: contract 7 was due on day 4, a holiday
abbrev until_day_6 : List Entry
until_day_6 = journal then (Some Open ∷ Some Pay ∷ [])

abbrev closed_day_6 : List Entry
closed_day_6 = until_day_6 then (Some Close ∷ [])

-- the days that contract 7 has run by then: from its first payment day to that day's payment day
abbrev days_counted : ℕ
days_counted =
    let book = after week until_day_6 in
    payment_day week book.standing.day - (trade_of (record { 0 = 7 }) (in_use book.trades (table_after week until_day_6))).first

-- a trade begun on day 3, paid on day 6
abbrev from_day_3 : List Entry
from_day_3 = cover180 then (Some Pay ∷ Some Close ∷ Some Open ∷ initial 100 9 3650 1000 6 ∷ Some Pay ∷ Some Close ∷ Some Open ∷ Some Pay ∷ [])

-- every day trades
abbrev pub daily : Calendar
daily = 255 ∷ []

-- the clients hold nothing, so their payment of the initial amount fails
abbrev pub failed_once : List Entry
failed_once =
    cover180
    then (Some (FundOut Client (fen 3000000)) ∷ initial 100 7 3650 1000 6 ∷ Some Pay ∷ Some Close ∷ Some Open ∷ Some Pay ∷ Some Close ∷ [])

abbrev pub failed_twice : List Entry
failed_twice = failed_once then (Some Open ∷ Some Pay ∷ Some Close ∷ [])

abbrev pub cases : List Case
cases =
    -- "100 sheets, 3,650 ticks, 4 days: 1,000,400", "1 sheet, 1,825, 1 day: 10,001", "1,824: 10,000"
    (M1 is pos (redemption_amount (sheets 100) (ticks 3650) 4).fen.0 ∷ [] gives pos 1000400 ∷ [])
    ∷ (M2 is pos (redemption_amount (sheets 1) (ticks 1825) 1).fen.0 ∷ [] gives pos 10001 ∷ [])
    ∷ (M3 is pos (redemption_amount (sheets 1) (ticks 1824) 1).fen.0 ∷ [] gives pos 10000 ∷ [])
    -- "199 units at 9,000: 179"; "two kinds of 5 units at 9,000: 8, not 9", as V of a book that has them; "cash 19,999: 1"
    ∷ (M4 is pos (kind_worth 0 199 0 9000).sheets.0 ∷ [] gives pos 179 ∷ [])
    ∷ (M5 is pos (value (after week two_kinds).vault) ∷ [] gives pos 8 ∷ [])
    ∷ (M6 is pos (kind_worth 32 19999 0 0).sheets.0 ∷ [] gives pos 1 ∷ [])
    -- "headroom 180, initial 180 done", with headroom afterwards; "190: 12"
    ∷ (M7 is headroom_after week cover180 ∷ number_to week cover180 (initial 180 7 3650 1000 4) ∷ headroom_after week (cover180 then (initial 180 7 3650 1000 4 ∷ [])) ∷ [] gives pos 180 ∷ pos 0 ∷ pos 0 ∷ [])
    ∷ (M8 is headroom_after week cover180 ∷ number_to week cover180 (initial 190 7 3650 1000 4) ∷ [] gives pos 180 ∷ pos 12 ∷ [])
    -- "contract 7 above matures at the Close of day 6 over 7 - 3 = 4 days": the day, the days, the sheets, the net that is cleared
    ∷ (M9 is pos (today (after week until_day_6)) ∷ pos days_counted ∷ pos (answer_to week until_day_6 (Some Close)).matured.0 ∷ (after week closed_day_6).nets.cleared.0 ∷ [] gives pos 6 ∷ pos 4 ∷ pos 100 ∷ pos 1000400 ∷ [])
    -- "failed runs 1 and 2 open suspended and terminated"
    ∷ (M10 is status_after daily (failed_once then (Some Open ∷ [])) ∷ status_after daily (failed_twice then (Some Open ∷ [])) ∷ [] gives pos 1 ∷ pos 2 ∷ [])
    ∷ []

pub worked-cases : map {B = Name × List ℤ} (λ (c : Case). (c.name, c.gives)) cases ≡ map {B = Name × List ℤ} (λ (c : Case). (c.name, c.says)) cases
unfolding every_rule redemption_amount kind_worth last_book last_table
worked-cases = refl

pub all-ten : map (λ (c : Case). c.name) cases ≡ M1 ∷ M2 ∷ M3 ∷ M4 ∷ M5 ∷ M6 ∷ M7 ∷ M8 ∷ M9 ∷ M10 ∷ []
all-ten = refl

-- ---- beside them

-- a trade begun on day 3 and due on day 6 runs over 7 - 6 = 1 day, not 3
pub one-day-over-a-holiday : (after week (from_day_3 then (Some Close ∷ []))).nets.cleared.0 ≡ pos 1000100
unfolding every_rule last_book last_table
one-day-over-a-holiday = refl

-- on termination contract 7 is redeemed whole at its fallback price, 1,000 ticks over 3 days, into the net that waits
pub terminated-at-fallback : (after daily (failed_twice then (Some Open ∷ []))).nets.cleared.0 ≡ pos 82
unfolding every_rule last_book last_table
terminated-at-fallback = refl
