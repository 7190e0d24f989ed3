-- Close: its causes by the code's tests, its plan, the flat table once its slots are settled, the evening that a fit book allows, and what it gives
-- back. For the event Close.
-- Assumes nothing.
use Rattle.std.specs.Prelude.{◌≡◌, ℕ, ◌+◌, ◌-◌, ◌*◌, ◌≤◌, Bool, true, false, not, ◌||◌, ltb, List, length, take, drop, nat_abs, pos, ◌+ℤ◌, ◌-ℤ◌, Err}
use mathlib.Core.Path.{refl, sym, ap, ◌∙◌}
use mathlib.Core.Option.{Option, none, some}
use native.Mathlib.Omega.{arith}
use lib.Seq.{take_at, drop_at}
use Rattle.money.specs.declared.units.Fen.{Fen}
use Rattle.money.specs.declared.units.Sheets.{Sheets}
use Rattle.money.specs.Units.{fen, sheets, signed_fen}
use Rattle.money.specs.declared.refusal.Refusal.{Refusal}
use Rattle.money.specs.Causes.{first_of, refusal_number}
use Rattle.money.specs.Days.{Calendar}
use Rattle.money.proofs.Refusals.{hit, skip, clear}
use Rattle.rules.specs.Limits.{net_limit}
use Rattle.rules.specs.Unpaid.{passes}
use Rattle.rules.specs.Days.{payment_day}
use Rattle.rules.specs.Trades.{in_use, total, outstanding, maturing, maturity_amount, remaining, packed, over}
use Rattle.rules.specs.NextTerm.{left_from, started_from}
use Rattle.rules.specs.Fit.{net_fit, securities_fit, cash_fit, fit}
use Rattle.rules.specs.Close.{Evening, may_close, today, matured_trades, matured_sheets, matured_amount, outstanding_matured, left_trades, started_terms, started_principal, net_with_matured, net_at_close, cleared_at_close, unpaid_at_close, close_causes}
use Rattle.rules.specs.Close.{all_arrived, claims_of, evening, claims_at_close, closed_table, closed_book, close_answer}
use Rattle.rules.proofs.FitParts.{Fit, fit_parts, securities-fit, cash-fits}
use Rattle.rules.proofs.TradeLaws.{outstanding-matured}
use Rattle.rules.proofs.NextTermLaws.{outstanding-left}
use Rattle.rules.proofs.NextTermTurns.{principal-by-sheets, started-at-most}
use Rattle.rules.proofs.EveningFit.{all-arrived-fit}
use Rattle.ledger.specs.Types.{Nets, Unpaid, Security, Book, Trade}
use Rattle.scalars.specs.declared.state.Scalars.{Scalars}
use Rattle.scalars.specs.Scalars.{done_by}
use Rattle.ledger.specs.declared.evening.EveningScalars.{EveningScalars}
use Rattle.ledger.specs.Redemption.{Redeemed, maturity_of}
use Rattle.ledger.specs.NextTerm.{Plan, Planned}
use Rattle.ledger.specs.Flat.{Rows, rows_of, trades_to, trades_of, book_of, evening_at, applied_at, closed_by, table_by, Kept}
use Rattle.ledger.proofs.Column.{first_holds, second_holds, neither-holds}
use Rattle.ledger.proofs.NetLaws.{over-net, within-net}
use Rattle.ledger.proofs.FitFacts.{fit-in-use}
use Rattle.ledger.proofs.FlatLaws.{take-trades}
use Rattle.ledger.proofs.StartLaws.{left-long}
use Rattle.ledger.proofs.EveningLaws.{Kept as KeptEvening}

-- ---- the causes, by the code's tests in their order

module _ (calendar : Calendar) (book : Book) (table : List Trade) where
  pub not-now : not (may_close book.standing) ≡ true → first_of (close_causes calendar book table) ≡ some 4
  unfolding close_causes
  not-now e = hit _ _ e

  -- the three tests of 14
  abbrev today-over : Bool
  today-over = ltb net_limit (nat_abs (net_at_close calendar book table))

  abbrev cleared-over : Bool
  cleared-over = ltb net_limit (nat_abs (cleared_at_close calendar book table))

  abbrev unpaid-over : Bool
  unpaid-over = passes (matured_amount calendar book table) book.sums.unpaid

  module _ (may : not (may_close book.standing) ≡ false) where
    pub today-outside : net_fit (net_at_close calendar book table) ≡ false → first_of (close_causes calendar book table) ≡ some 14
    unfolding close_causes
    today-outside e = skip _ _ may (hit _ _ (first_holds unpaid-over (first_holds cleared-over (over-net (net_at_close calendar book table) e))))

    pub cleared-outside : net_fit (cleared_at_close calendar book table) ≡ false → first_of (close_causes calendar book table) ≡ some 14
    unfolding close_causes
    cleared-outside e = skip _ _ may (hit _ _ (first_holds unpaid-over (second_holds today-over (over-net (cleared_at_close calendar book table) e))))

    pub unpaid-past : unpaid-over ≡ true → first_of (close_causes calendar book table) ≡ some 14
    unfolding close_causes
    unpaid-past e = skip _ _ may (hit _ _ (second_holds (today-over || cleared-over) e))

    pub may-be-closed : net_fit (net_at_close calendar book table) ≡ true → net_fit (cleared_at_close calendar book table) ≡ true
        → unpaid-over ≡ false → first_of (close_causes calendar book table) ≡ none
    unfolding close_causes
    may-be-closed today cleared unpaid =
        skip _ _ may
        (skip _ _ (neither-holds (neither-holds (within-net (net_at_close calendar book table) today) (within-net (cleared_at_close calendar book table) cleared)) unpaid) clear)

-- ---- (a) and the next terms: what is planned over the flat table

module _ (calendar : Calendar) (book : Book) (table : List ℕ) (fits : fit calendar book (trades_of table) ≡ true) where
  abbrev trades : List Trade
  trades = trades_to table book.trades

  in_use-here : in_use book.trades (trades_of table) ≡ trades
  in_use-here = fit-in-use calendar book table fits

  module _ (day payment : ℕ) (d : day ≡ today book) (p : payment ≡ payment_day calendar book.standing.day) (plan : Redeemed) (planned : plan ≡ maturity_of day payment trades) where
    pub sheets-planned : plan.sheets ≡ sheets (matured_sheets book (trades_of table))
    unfolding matured_sheets
    sheets-planned = rw (planned, d) (ap (λ (l : List Trade). sheets (total (maturing (today book)) l)) (sym in_use-here))

    pub amount-planned : plan.amount ≡ fen (matured_amount calendar book (trades_of table))
    unfolding matured_amount
    amount-planned = rw (planned, d, p) (ap (λ (l : List Trade). fen (total (maturity_amount (today book) (payment_day calendar book.standing.day)) l)) (sym in_use-here))

  -- O before, less what matured
  pub matured-left : outstanding_matured book (trades_of table) + matured_sheets book (trades_of table) ≡ outstanding (in_use book.trades (trades_of table))
  unfolding matured_trades matured_sheets
  matured-left = outstanding-matured (today book) (in_use book.trades (trades_of table))

  -- what matures and what starts is within S
  abbrev parts : Fit calendar book (trades_of table)
  parts = fit_parts calendar book (trades_of table) fits

  pub matured-bound : outstanding_matured book (trades_of table) ≤ 10000000000
  matured-bound = omega (arith, matured-left, parts.size.covers, parts.size.within)

  pub started-bound : (o : ℕ) → outstanding (started_from calendar book o trades) ≤ 10000000000
  started-bound o =
      omega (arith, started-at-most calendar book o trades, outstanding-matured (today book) trades, ap outstanding in_use-here, parts.size.covers, parts.size.within)

  -- O as (b) begins counts what started
  module _ (o left : ℕ) (e : o ≡ outstanding_matured book (trades_of table)) (l : left ≡ o + outstanding (started_from calendar book o trades)) where
    started-in-use : started_from calendar book o trades ≡ started_terms calendar book (trades_of table)
    unfolding started_terms
    started-in-use = rw (e, in_use-here)

    outstanding-of-left : outstanding (left_trades calendar book (trades_of table)) ≡ outstanding_matured book (trades_of table) + outstanding (started_terms calendar book (trades_of table))
    unfolding left_trades started_terms matured_trades
    outstanding-of-left = outstanding-left calendar book (outstanding_matured book (trades_of table)) (in_use book.trades (trades_of table))

    pub left-planned : left ≡ outstanding (left_trades calendar book (trades_of table))
    left-planned =
        l
        ∙ ap (λ (terms : List Trade). o + outstanding terms) started-in-use
        ∙ ap (λ (n : ℕ). n + outstanding (started_terms calendar book (trades_of table))) e
        ∙ sym outstanding-of-left

    pub principal-planned : 10000 * (left - o) ≡ started_principal calendar book (trades_of table)
    unfolding started_principal
    principal-planned =
        rw (principal-by-sheets (started_terms calendar book (trades_of table)))
        (omega (arith, l ∙ ap (λ (terms : List Trade). o + outstanding terms) started-in-use))

-- ---- what the code asks of its plan

module _ {calendar : Calendar} {book : Book} {held : List ℕ} {table : List Trade} {plan : Plan} (planned : Planned calendar book held table plan) where
  -- the net with what matured and the terms that start, and what is joined of it
  module _ {at-close : Nets} (net : at-close ≡ record { today = signed_fen (book.nets.today.0 +ℤ pos plan.amount.0 -ℤ pos plan.started.0); cleared = book.nets.cleared }) where
    pub net-at-close : at-close ≡ record { today = signed_fen (net_at_close calendar book table); cleared = book.nets.cleared }
    net-at-close =
        net
        ∙ ap (λ (amount : Fen). record { today = signed_fen (book.nets.today.0 +ℤ pos amount.0 -ℤ pos plan.started.0); cleared = book.nets.cleared }) planned.amount
        ∙ ap (λ (amount : Fen). record { today = signed_fen (net_with_matured calendar book table -ℤ pos amount.0); cleared = book.nets.cleared }) planned.started

    pub today-asked : {r : Bool} → r ≡ net_fit at-close.today.0 → r ≡ net_fit (net_at_close calendar book table)
    today-asked e = e ∙ ap (λ (nets : Nets). net_fit nets.today.0) net-at-close

    module _ {joined-nets : Nets} (join : joined-nets ≡ record { today = signed_fen (pos 0); cleared = signed_fen (at-close.cleared.0 +ℤ at-close.today.0) }) where
      pub all-joined : joined-nets ≡ record { today = signed_fen (pos 0); cleared = signed_fen (cleared_at_close calendar book table) }
      all-joined = join ∙ ap (λ (nets : Nets). record { today = signed_fen (pos 0); cleared = signed_fen (nets.cleared.0 +ℤ nets.today.0) }) net-at-close

      pub cleared-asked : {r : Bool} → r ≡ net_fit joined-nets.cleared.0 → r ≡ net_fit (cleared_at_close calendar book table)
      cleared-asked e = e ∙ ap (λ (nets : Nets). net_fit nets.cleared.0) all-joined

  pub unpaid-asked : {r : Bool} → r ≡ passes plan.amount.0 book.sums.unpaid → r ≡ passes (matured_amount calendar book table) book.sums.unpaid
  unpaid-asked e = e ∙ ap (λ (amount : Fen). passes amount.0 book.sums.unpaid) planned.amount

-- ---- (a) to (e): the flat table once its slots are settled

module _ (table after : List ℕ) (count : ℕ) (changed : List Trade) (kept : Kept table count) (same : length after ≡ length table) (long : length changed ≡ count)
    (settled : trades_of after ≡ over count changed (trades_of table)) where
  pub settled-in-use : trades_to after count ≡ changed
  settled-in-use =
      sym (take-trades after count (omega (arith, kept.room)))
      ∙ (ap (take count) settled ∙ take_at changed (drop count (trades_of table)) count long)

  -- spare slots keep their content
  pub spare-slots-kept : drop count (trades_of after) ≡ drop count (trades_of table)
  spare-slots-kept = ap (drop count) settled ∙ drop_at changed (drop count (trades_of table)) count long

module _ (calendar : Calendar) (book : Book) (table after : List ℕ) (o : ℕ) (e : o ≡ outstanding_matured book (trades_of table)) (kept : Kept table book.trades)
    (same : length after ≡ length table) (settled : trades_of after ≡ over book.trades (left_from calendar book o (trades_to table book.trades)) (trades_of table)) where
  pub trades-left : trades_to after book.trades ≡ left_trades calendar book (trades_of table)
  unfolding left_trades
  trades-left =
      let slots = left_from calendar book o (trades_to table book.trades) in
      let in_order-here : slots ≡ left_from calendar book (outstanding_matured book (trades_of table)) (in_use book.trades (trades_of table)) =
      rw (e, take-trades table book.trades (omega (arith, kept.room)))
      in
      settled-in-use table after book.trades slots kept same (left-long calendar book o table book.trades) settled ∙ in_order-here

  pub packed-left : packed book.trades (remaining (trades_to after book.trades)) (trades_of after) ≡ closed_table book (left_trades calendar book (trades_of table)) (trades_of table)
  unfolding closed_table
  packed-left =
      rw (trades-left, spare-slots-kept table after book.trades (left_from calendar book o (trades_to table book.trades)) kept same (left-long calendar book o table book.trades) settled)

-- ---- (c) and (d): the evening of a book whose vault and cash are fit

-- as its applications begin
abbrev pub begun : Book → Evening
begun book = record { own = book.cash.own; vault = all_arrived book.vault; done = 0; dropped = 0 }

module _ (book : Book) (s : securities_fit book.vault ≡ true) (c : cash_fit book.cash book.vault.guarantee ≡ true) where
  pub evening-begins : KeptEvening (begun book)
  evening-begins =
      let arrived = all-arrived-fit book.cash.client book.cash.own book.vault 0 0 (securities-fit book.vault s) (cash-fits book.cash book.vault.guarantee c) in
      record { securities = arrived.securities; free = arrived.cash.free; cash = omega (arith, arrived.cash.sum) }

-- its claims: today's part of U has joined the cleared part
pub claims-joined : (calendar : Calendar) (book : Book) (left table : List Trade) (sheets : ℕ) (unpaid : Unpaid) → sheets ≡ outstanding left → unpaid ≡ unpaid_at_close calendar book table
    → claims_of sheets unpaid.cleared.0 ≡ claims_at_close calendar book left table
unfolding claims_at_close
claims-joined calendar book left table sheets unpaid o u = rw (o, u) (omega arith)

-- ---- what Close gives back, refused and done

module _ (calendar : Calendar) (scalars : Scalars) (rows : Rows) (left table : List Trade) where
  abbrev outcome : Option ℕ
  outcome = first_of (close_causes calendar (book_of scalars rows) table)

  pub close-refused : (refusal : Refusal) → outcome ≡ some (refusal_number refusal)
      → (applied_at (done_by scalars (Err refusal)) rows ≡ closed_by outcome calendar (book_of scalars rows) left table)
      × (table ≡ table_by outcome table (closed_table (book_of scalars rows) left table))
  close-refused refusal e = rw e (refl, refl)

-- the applications as they were cleared
pub rows-cleared : (scalars : Scalars) (held : List ℕ) {kinds cleared-kinds units cleared-units : List ℕ} {book : Book} → kinds ≡ cleared-kinds → units ≡ cleared-units
    → book_of scalars (rows_of held cleared-kinds cleared-units) ≡ book → book_of scalars (rows_of held kinds units) ≡ book
rows-cleared scalars held k u e = rw (k, u) e

pub close-done : (calendar : Calendar) (book : Book) (left table : List Trade) (matured : Sheets) (ended : EveningScalars) (securities : List Security) (scalars : Scalars) (rows : Rows)
    → matured ≡ sheets (matured_sheets book table) → evening_at ended securities ≡ evening book (claims_at_close calendar book left table) → book_of scalars rows ≡ closed_book calendar book left table
    → applied_at (record { answer = record { number = 0; matured = matured; done = ended.done; dropped = ended.dropped }; scalars = scalars }) rows ≡ closed_by none calendar book left table
unfolding close_answer
close-done calendar book left table matured ended securities scalars rows m end next =
    rw (m, sym end, sym next)
