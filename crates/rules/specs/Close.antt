-- "12 Close, in Paid, or in Trading if terminated": its parts (a) to (f), and between (a) and (b) the next terms. (02, ask 4; arts. 30, 49, 52, 53, 60, 61, 69)
-- Assumes nothing.
use Rattle.std.specs.Prelude.{ℕ, ◌+◌, ◌-◌, ◌*◌, Bool, true, false, cond, not, ◌&&◌, ◌||◌, List, [], ◌∷◌, map, ltb, leb, ℤ, pos, nat_abs, ◌+ℤ◌, ◌-ℤ◌, length, get_or, set}
use Rattle.std.specs.Int.Signed.{lt_z}
use Rattle.money.specs.Units.{fen, sheets, signed_fen, sheet_fen}
use Rattle.money.specs.declared.units.Fen.{Fen}
use Rattle.money.specs.Causes.{Cause, ◌⇒◌}
use Rattle.money.specs.Days.{Calendar}
use Rattle.money.specs.Money.{principal}
use Rattle.rules.specs.Folds.{in_turn}
use Rattle.rules.specs.Limits.{net_limit}
use Rattle.rules.specs.Book.{Security, Guarantee, Vault, Closed, ShortRun, NotShort, ShortOnce, ShortTwice, ShortThrice, Standing, Withdrawals, Unpaid, Book, Answer, is_paid, is_trading, is_terminated, has_failed, with_unpaid, no_applications}
use Rattle.rules.specs.Unpaid.{unpaid_sum, today_plus, joined, passes}
pub use Rattle.rules.specs.Days.{today}
use Rattle.rules.specs.Days.{payment_day}
use Rattle.rules.specs.Trades.{Trade, in_use, total, outstanding, maturing, maturity_amount, matured, remaining, packed}
use Rattle.rules.specs.Vault.{security_at, is_cash, effective_of, frozen_of, value, headroom_of}
use Rattle.rules.specs.NextTerm.{left_from, started_from}

abbrev pub may_close : Standing → Bool
may_close standing = is_paid standing.phase || is_trading standing.phase && is_terminated standing.status

-- ---- (a) "trades due today or earlier are redeemed at their price"

unfoldable pub matured_trades : Book → List Trade → List Trade
matured_trades book table = map (matured (today book)) (in_use book.trades table)

unfoldable pub matured_sheets : Book → List Trade → ℕ
matured_sheets book table = total (maturing (today book)) (in_use book.trades table)

unfoldable pub matured_amount : Calendar → Book → List Trade → ℕ
matured_amount calendar book table =
    total (maturity_amount (today book) (payment_day calendar book.standing.day)) (in_use book.trades table)

-- ---- "between its parts (a) and (b)" (02, ask 4): all have matured before the first of them starts again

-- O once all have matured
abbrev pub outstanding_matured : Book → List Trade → ℕ
outstanding_matured book table = outstanding (matured_trades book table)

-- the trades in their slots as (b) begins
unfoldable pub left_trades : Calendar → Book → List Trade → List Trade
left_trades calendar book table = left_from calendar book (outstanding_matured book table) (in_use book.trades table)

-- the records of the terms that start
unfoldable pub started_terms : Calendar → Book → List Trade → List Trade
started_terms calendar book table = started_from calendar book (outstanding_matured book table) (in_use book.trades table)

-- "A started term counts as an initial trade in every total": "10,000q is taken from today's net"
unfoldable pub started_principal : Calendar → Book → List Trade → ℕ
started_principal calendar book table = total (λ term. (principal term.sheets).0) (started_terms calendar book table)

-- ---- (b) "today's net joins the cleared net and becomes 0"

abbrev pub net_with_matured : Calendar → Book → List Trade → ℤ
net_with_matured calendar book table = book.nets.today.0 +ℤ pos (matured_amount calendar book table)

-- "today's net as (b) begins": with what matured, less what started
abbrev pub net_at_close : Calendar → Book → List Trade → ℤ
net_at_close calendar book table = net_with_matured calendar book table -ℤ pos (started_principal calendar book table)

abbrev pub cleared_at_close : Calendar → Book → List Trade → ℤ
cleared_at_close calendar book table = book.nets.cleared.0 +ℤ net_at_close calendar book table

-- U with this Close's maturities: "Close adds the second to the first before it looks at applications" (02, ask 2)
abbrev pub unpaid_at_close : Calendar → Book → List Trade → Unpaid
unpaid_at_close calendar book table = joined (today_plus (matured_amount calendar book table) book.sums.unpaid)

-- "For Close, 14 looks at today's net as (b) begins and at the cleared net after it", and at U
unfoldable pub close_causes : Calendar → Book → List Trade → List Cause
close_causes calendar book table =
    (not (may_close book.standing) ⇒ 4)
    ∷ (ltb net_limit (nat_abs (net_at_close calendar book table))
    || ltb net_limit (nat_abs (cleared_at_close calendar book table))
    || passes (matured_amount calendar book table) book.sums.unpaid ⇒ 14)
    ∷ []

-- ---- (c) "arriving becomes effective"

abbrev pub security_arrived : Security → Security
security_arrived security = record { effective = security.effective + security.arriving; arriving = 0; frozen = security.frozen; rate = security.rate }

abbrev pub guarantee_arrived : Guarantee → Guarantee
guarantee_arrived guarantee = record { effective = fen (guarantee.effective.0 + guarantee.arriving.0); arriving = fen 0; frozen = guarantee.frozen }

unfoldable pub all_arrived : Vault → Vault
all_arrived vault = record { guarantee = guarantee_arrived vault.guarantee; securities = map security_arrived vault.securities }

-- ---- (d) "applications in order"

-- own cash and the vault as the evening goes on, and the applications done and dropped so far
pub record Evening : Type 0 where
  pub own : Fen
  pub vault : Vault
  pub done : ℕ
  pub dropped : ℕ

abbrev pub fewer : ℕ → Security → Security
fewer units security = record { effective = security.effective - units; arriving = security.arriving; frozen = security.frozen; rate = security.rate }

abbrev pub fewer_cash : ℕ → Guarantee → Guarantee
fewer_cash units guarantee = record { effective = fen (guarantee.effective.0 - units); arriving = guarantee.arriving; frozen = guarantee.frozen }

-- the vault without some units of a kind
unfoldable pub taken_out : (kind units : ℕ) → Vault → Vault
taken_out kind units vault = record {
  guarantee = cond (is_cash kind) (fewer_cash units vault.guarantee) vault.guarantee;
  securities = cond (is_cash kind) vault.securities (set vault.securities kind (fewer units (security_at vault kind)));
}

-- "10,000 × O + U": what the pledge answers for, in fen (02, ask 2; art. 49)
abbrev pub claims_of : (outstanding unpaid : ℕ) → ℕ
claims_of outstanding unpaid = sheet_fen * outstanding + unpaid

-- "only if 10,000 × V afterwards is at least 10,000 × O + U": a pledge of so many sheets covers the claims
abbrev pub covers : (pledge claims : ℕ) → Bool
covers pledge claims = leb claims (sheet_fen * pledge)

-- "done if the phase was Paid with no failed run, unfrozen units suffice", and V afterwards covers the claims
unfoldable pub may_go : (served : Bool) → (claims kind units : ℕ) → Vault → Bool
may_go served claims kind units vault =
    served && leb (frozen_of vault kind + units) (effective_of vault kind) && covers (value (taken_out kind units vault)) claims

-- "cash goes to own"
abbrev pub done_one : (kind units : ℕ) → Evening → Evening
done_one kind units evening = record {
  own = fen (cond (is_cash kind) (evening.own.0 + units) evening.own.0);
  vault = taken_out kind units evening.vault;
  done = evening.done + 1;
  dropped = evening.dropped;
}

-- "else dropped"
abbrev pub dropped_one : Evening → Evening
dropped_one evening = record { own = evening.own; vault = evening.vault; done = evening.done; dropped = evening.dropped + 1 }

abbrev pub settle_one : (goes : Bool) → (kind units : ℕ) → Evening → Evening
settle_one true kind units evening = done_one kind units evening
settle_one false kind units evening = dropped_one evening

abbrev pub settled : (served : Bool) → (claims kind units : ℕ) → Evening → Evening
settled served claims kind units evening = settle_one (may_go served claims kind units evening.vault) kind units evening

-- "the phase was Paid with no failed run"
abbrev pub served : Standing → Bool
served standing = is_paid standing.phase && not (has_failed standing.failed)

unfoldable pub applications : (served : Bool) → (claims : ℕ) → Withdrawals → Evening → Evening
applications served claims withdrawals evening =
    in_turn withdrawals.count (λ i. settled served claims (get_or withdrawals.kinds i 0) (get_or withdrawals.units i 0)) evening

-- the evening's end; it begins with own cash and the vault after (c)
unfoldable pub evening : Book → (claims : ℕ) → Evening
evening book claims =
    applications (served book.standing) claims book.withdrawals
    (record { own = book.cash.own; vault = all_arrived book.vault; done = 0; dropped = 0 })

-- the claims of an evening: O is that of the trades left as (b) begins, U that with this Close's maturities
unfoldable pub claims_at_close : Calendar → Book → (left table : List Trade) → ℕ
claims_at_close calendar book left table = claims_of (outstanding left) (unpaid_sum (unpaid_at_close calendar book table))

-- ---- (e) "trades with nothing left leave the table, order kept"

unfoldable pub closed_table : Book → (left table : List Trade) → List Trade
closed_table book left table = packed book.trades (remaining left) table

-- ---- (f) "headroom below 0 lengthens the short run, at most to 3, else sets it to 0"

abbrev pub short_more : ShortRun → ShortRun
short_more NotShort = ShortOnce
short_more ShortOnce = ShortTwice
short_more ShortTwice = ShortThrice
short_more ShortThrice = ShortThrice

unfoldable pub is_short_close : Book → (left : List Trade) → Vault → Bool
is_short_close book left vault = lt_z (headroom_of book.size.0 (value vault) (outstanding left)) (pos 0)

abbrev pub short_at_close : Bool → ShortRun → ShortRun
short_at_close true short = short_more short
short_at_close false short = NotShort

-- "Then Closed."
abbrev pub closed_standing : ShortRun → Standing → Standing
closed_standing short standing = record { day = standing.day; phase = Closed; status = standing.status; failed = standing.failed; short = short }

unfoldable pub closed_book : Calendar → Book → (left table : List Trade) → Book
closed_book calendar book left table =
    let end = evening book (claims_at_close calendar book left table) in
    with_unpaid (unpaid_at_close calendar book table)
    (record {
      nets = record { today = signed_fen (pos 0); cleared = signed_fen (cleared_at_close calendar book table) };
      sums = book.sums;
      cash = record { own = end.own; client = book.cash.client };
      vault = end.vault;
      size = book.size;
      standing = closed_standing (short_at_close (is_short_close book left end.vault) book.standing.short) book.standing;
      withdrawals = no_applications;
      postings = book.postings;
      trades = length (remaining left);
    })

-- "The answer carries sheets matured, applications done and dropped"
unfoldable pub close_answer : Calendar → Book → (left table : List Trade) → Answer
close_answer calendar book left table =
    let end = evening book (claims_at_close calendar book left table) in
    record { number = 0; matured = sheets (matured_sheets book table); done = end.done; dropped = end.dropped }
