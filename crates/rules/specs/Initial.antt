-- "9 Initial, in Trading: a new last trade; 10,000q is taken from today's net." (02, ask 4; arts. 21, 30, 33, 43, 44)
-- Assumes nothing.
use Rattle.std.specs.Prelude.{ℕ, ◌+◌, ◌%◌, Bool, not, ◌&&◌, ◌||◌, List, [], ◌∷◌, ◌++◌, ltb, leb, eqb, ℤ, pos, nat_abs, ◌-ℤ◌, length, set}
use Rattle.std.specs.Int.Signed.{lt_z}
use Rattle.money.specs.declared.units.Ticks.{Ticks}
use Rattle.money.specs.Units.{signed_fen}
use Rattle.money.specs.Limits.{trade_limit, price_limit}
use Rattle.money.specs.Causes.{Cause, ◌⇒◌}
use Rattle.money.specs.Days.{Calendar, at_or_after}
use Rattle.money.specs.Money.{principal}
use Rattle.rules.specs.Limits.{net_limit, product_limit, ahead_limit}
use Rattle.rules.specs.Book.{Book, is_trading, is_terminated, is_suspended, with_nets, with_trades, posting_of, is_posted}
use Rattle.rules.specs.Days.{day_number, payment_day, followed}
use Rattle.rules.specs.Trades.{Terms, Trade, in_use, on_table}
use Rattle.rules.specs.Vault.{headroom}

-- "in 9 also no multiple of 10, or above 10^8"
abbrev pub bad_count : ℕ → Bool
bad_count count = eqb count 0 || not (eqb (count % 10) 0) || ltb trade_limit count

-- "due not 1 to 365 days ahead"
abbrev pub off_term : (today due : ℕ) → Bool
off_term today due = leb due today || ltb (today + ahead_limit) due

-- "or no trading day at or after it with another following"
abbrev pub no_maturity : Calendar → (due : ℕ) → Bool
no_maturity calendar due = not (followed calendar (at_or_after calendar due))

abbrev pub bad_due : Calendar → (today due : ℕ) → Bool
bad_due calendar today due = off_term today due || no_maturity calendar due

-- "a price above 100,000"
abbrev pub bad_prices : (price fallback : Ticks) → Bool
bad_prices price fallback = ltb price_limit price.0 || ltb price_limit fallback.0

-- "An initial trade's byte 2 is 0, or the product number plus 1"; "in an initial trade a product not posted today", or above 15 (02, ask 4)
abbrev pub bad_product : Book → (product : ℕ) → Bool
bad_product book product = not (eqb product 0) && (ltb product_limit product || not (is_posted (posting_of book product)))

-- today's net with an initial trade taken from it
abbrev pub net_less : Book → Terms → ℤ
net_less book terms = book.nets.today.0 -ℤ pos (principal terms.sheets).0

-- its product; "20, …, placed after 3" (02, ask 4)
abbrev pub product_causes : Book → Terms → List Cause
product_causes book terms = (bad_product book terms.product ⇒ 20) ∷ []

-- when an initial trade may begin
abbrev pub time_causes : Book → List Cause
time_causes book =
    (not (is_trading book.standing.phase) ⇒ 4)
    ∷ (is_terminated book.standing.status ⇒ 5)
    ∷ (is_suspended book.standing.status ⇒ 6)
    ∷ []

-- its sheets for themselves
abbrev pub count_causes : Terms → List Cause
count_causes terms = (bad_count terms.sheets.0 ⇒ 7) ∷ []

-- its prices and its due day
abbrev pub term_causes : Calendar → Book → Terms → List Cause
term_causes calendar book terms =
    (bad_prices terms.price terms.fallback ⇒ 8)
    ∷ (bad_due calendar (day_number book.standing.day) terms.due ⇒ 9)
    ∷ []

-- the table must have room for it
abbrev pub slot_causes : Book → List Trade → Terms → List Cause
slot_causes book table terms =
    (on_table terms.contract (in_use book.trades table) ⇒ 10)
    ∷ (leb (length table) book.trades ⇒ 11)
    ∷ []

-- headroom and today's net must have room for its sheets
abbrev pub sheet_causes : Book → List Trade → Terms → List Cause
sheet_causes book table terms =
    (lt_z (headroom book table) (pos terms.sheets.0) ⇒ 12)
    ∷ (ltb net_limit (nat_abs (net_less book terms)) ⇒ 14)
    ∷ []

abbrev pub room_causes : Book → List Trade → Terms → List Cause
room_causes book table terms = slot_causes book table terms ++ sheet_causes book table terms

unfoldable pub initial_causes : Calendar → Book → List Trade → Terms → List Cause
initial_causes calendar book table terms =
    product_causes book terms
    ++ time_causes book
    ++ count_causes terms
    ++ term_causes calendar book terms
    ++ room_causes book table terms

-- the record of a trade that begins today
abbrev pub begun : Calendar → Book → Terms → Trade
begun calendar book terms = record {
  contract = terms.contract;
  sheets = terms.sheets;
  price = terms.price;
  fallback = terms.fallback;
  first = payment_day calendar book.standing.day;
  due = terms.due;
  product = terms.product;
}

unfoldable pub initial_book : Book → Terms → Book
initial_book book terms =
    with_nets (record { today = signed_fen (net_less book terms); cleared = book.nets.cleared }) (with_trades (book.trades + 1) book)

unfoldable pub initial_table : Calendar → Book → List Trade → Terms → List Trade
initial_table calendar book table terms = set table book.trades (begun calendar book terms)
