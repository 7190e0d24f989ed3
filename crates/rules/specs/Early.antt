-- "10 Early, in Trading: takes sheets off a trade at the price given; the amount joins today's net (art. 29)."
-- Assumes nothing.
use Rattle.std.specs.Prelude.{ℕ, Bool, not, ◌&&◌, ◌||◌, List, [], ◌∷◌, ◌++◌, ltb, leb, eqb, ℤ, pos, nat_abs, ◌+ℤ◌}
use Rattle.money.specs.declared.units.Sheets.{Sheets}
use Rattle.money.specs.declared.units.Ticks.{Ticks}
use Rattle.money.specs.Units.{signed_fen}
use Rattle.money.specs.Limits.{price_limit}
use Rattle.money.specs.Causes.{Cause, ◌⇒◌}
use Rattle.money.specs.Days.{Calendar}
use Rattle.rules.specs.Limits.{net_limit}
use Rattle.rules.specs.Book.{Unpaid, Book, is_trading, is_terminated, with_nets, with_unpaid}
use Rattle.rules.specs.Unpaid.{today_plus, passes}
use Rattle.rules.specs.Days.{day_number, payment_day}
use Rattle.rules.specs.Trades.{Contract, Trade, in_use, on_table, trade_of, take_off, redeemed, over}

-- the trade of the contract given
abbrev pub named : Book → List Trade → Contract → Trade
named book table contract = trade_of contract (in_use book.trades table)

-- its amount, and today's net with that amount
abbrev pub early_amount : Calendar → Book → List Trade → Contract → Sheets → Ticks → ℕ
early_amount calendar book table contract count price =
    redeemed (payment_day calendar book.standing.day) count.0 price (named book table contract)

abbrev pub net_with_early : Calendar → Book → List Trade → Contract → Sheets → Ticks → ℤ
net_with_early calendar book table contract count price = book.nets.today.0 +ℤ pos (early_amount calendar book table contract count price)

-- U with that amount in its part of today (02, ask 2)
abbrev pub unpaid_with_early : Calendar → Book → List Trade → Contract → Sheets → Ticks → Unpaid
unpaid_with_early calendar book table contract count price = today_plus (early_amount calendar book table contract count price) book.sums.unpaid

-- "today at or past due", of a trade that is on the table
abbrev pub past_due : Book → List Trade → Contract → Bool
past_due book table contract =
    on_table contract (in_use book.trades table) && leb (named book table contract).due (day_number book.standing.day)

-- when sheets may be redeemed early, and how many at which price
abbrev pub order_causes : Book → Sheets → Ticks → List Cause
order_causes book count price =
    (not (is_trading book.standing.phase) ⇒ 4)
    ∷ (is_terminated book.standing.status ⇒ 5)
    ∷ (eqb count.0 0 ⇒ 7)
    ∷ (ltb price_limit price.0 ⇒ 8)
    ∷ []

-- the contract's trade must still run
abbrev pub named_causes : Book → List Trade → Contract → List Cause
named_causes book table contract =
    (past_due book table contract ⇒ 9)
    ∷ (not (on_table contract (in_use book.trades table)) ⇒ 10)
    ∷ []

-- it must have the sheets, and today's net and U room for the amount
abbrev pub take_causes : Calendar → Book → List Trade → Contract → Sheets → Ticks → List Cause
take_causes calendar book table contract count price =
    (ltb (named book table contract).sheets.0 count.0 ⇒ 13)
    ∷ (ltb net_limit (nat_abs (net_with_early calendar book table contract count price))
    || passes (early_amount calendar book table contract count price) book.sums.unpaid ⇒ 14)
    ∷ []

unfoldable pub early_causes : Calendar → Book → List Trade → Contract → Sheets → Ticks → List Cause
early_causes calendar book table contract count price =
    order_causes book count price
    ++ named_causes book table contract
    ++ take_causes calendar book table contract count price

unfoldable pub early_book : Calendar → Book → List Trade → Contract → Sheets → Ticks → Book
early_book calendar book table contract count price =
    with_nets (record { today = signed_fen (net_with_early calendar book table contract count price); cleared = book.nets.cleared })
    (with_unpaid (unpaid_with_early calendar book table contract count price) book)

unfoldable pub early_table : Book → List Trade → Contract → Sheets → List Trade
early_table book table contract count = over book.trades (take_off contract count.0 (in_use book.trades table)) table
