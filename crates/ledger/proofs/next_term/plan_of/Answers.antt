use Rattle.std.specs.Prelude.{◌≡◌, ℕ, ◌-◌, ◌≤◌, true, List}
use mathlib.Core.Path.{sym, ap, subst}
use native.Mathlib.Omega.{arith}
use Rattle.money.specs.declared.units.Sheets.{Sheets}
use Rattle.money.specs.Units.{fen, sheets}
use Rattle.rules.specs.Trades.{in_use, outstanding}
use Rattle.rules.specs.Fit.{fit}
use Rattle.rules.specs.Close.{matured_sheets, outstanding_matured}
use Rattle.money.specs.Days.{Calendar}
use Rattle.rules.proofs.FitParts.{fit_parts, fit-securities, fits-cash, fit-postings}
use Rattle.ledger.specs.Types.{Book}
use Rattle.ledger.specs.Flat.{trades_of, rows_of, book_of, Redeemable}
use Rattle.ledger.proofs.FitFacts.{fit-keeps, fit-redeemable}
use Rattle.ledger.proofs.InitialLaws.{today-within}
use Rattle.ledger.proofs.RedemptionLaws.{maturity-bound}
use Rattle.ledger.proofs.StartLaws.{renewable-where}
use Rattle.ledger.proofs.CloseLaws.{sheets-planned, amount-planned, matured-left, matured-bound, started-bound, left-planned, principal-planned}
use Rattle.ledger.proofs.next_term.plan_of.Goals as goal

-- what matures is in O, and O without it is what (a) leaves
module _ (calendar : Calendar) (book : Book) (table : List ℕ) (fits : fit calendar book (trades_of table) ≡ true) (known : ℕ) (matured : Sheets)
    (known-is : known ≡ outstanding (in_use book.trades (trades_of table))) (matured-is : matured ≡ sheets (matured_sheets book (trades_of table))) where
  in-known : matured.0 ≤ known
  in-known = omega (arith, ap (λ (q : Sheets). q.0) matured-is, matured-left calendar book table fits, known-is)

  rest-is : known - matured.0 ≡ outstanding_matured book (trades_of table)
  rest-is = omega (arith, ap (λ (q : Sheets). q.0) matured-is, matured-left calendar book table fits, known-is)

  rest-within : known - matured.0 ≤ 10000000000
  rest-within = omega (arith, rest-is, matured-bound calendar book table fits)

pub maturity_plan-redeemed-requires : goal.maturity_plan-redeemed-requires
maturity_plan-redeemed-requires c =
    let a = c.args in
    let fits = c.requires.book.fits in
    subst (λ (day : ℕ). Redeemable a.table.now a.scalars.trades day) (sym c.payment_day-payment.ensures) (fit-redeemable a.calendar.now _ a.table.now fits c.requires.book.few)

pub closing_of-closing-requires : goal.closing_of-closing-requires
closing_of-closing-requires c =
    let parts = fit_parts _ _ _ c.requires.book.fits in
    (fit-securities _ parts.securities, fits-cash _ _ parts.cash, c.requires.value)

pub overflow_sub-outstanding : goal.overflow_sub-outstanding
overflow_sub-outstanding c =
    let a = c.args in
    let fits = c.requires.book.fits in
    in-known _ _ a.table.now fits _ _ c.requires.sheets (sheets-planned _ _ a.table.now fits _ _ c.day_number-today.ensures c.payment_day-payment.ensures _ c.maturity_plan-redeemed.ensures)

pub outstanding_after-left-requires : goal.outstanding_after-left-requires
outstanding_after-left-requires c =
    let a = c.args in
    let book : Book = book_of a.scalars (rows_of a.held.now a.kinds.now a.units.now) in
    let fits = c.requires.book.fits in
    let parts = fit_parts _ _ _ fits in
    let matured = sheets-planned _ _ a.table.now fits _ _ c.day_number-today.ensures c.payment_day-payment.ensures _ c.maturity_plan-redeemed.ensures in
    let met = c.closing_of-closing.ensures a.calendar.now a.kinds.now a.units.now c.day_number-today.ensures c.payment_day-payment.ensures in (
      renewable-where _ book _ _ met c.requires.book.few (fit-postings _ parts.postings) (today-within _ _ _ fits c.requires.book.few),
      fit-keeps a.calendar.now book a.table.now fits,
      omega (arith, rest-within _ _ a.table.now fits _ _ c.requires.sheets matured),
    )

pub overflow_sub-result : goal.overflow_sub-result
overflow_sub-result c =
    let a = c.args in
    let met = c.closing_of-closing.ensures a.calendar.now a.kinds.now a.units.now c.day_number-today.ensures c.payment_day-payment.ensures in
    omega (arith, c.outstanding_after-left.ensures _ met)

pub overflow_mul-result : goal.overflow_mul-result
overflow_mul-result c =
    let a = c.args in
    let less = a.known.outstanding.0 - c.maturity_plan-redeemed.result.sheets.0 in
    let met = c.closing_of-closing.ensures a.calendar.now a.kinds.now a.units.now c.day_number-today.ensures c.payment_day-payment.ensures in
    omega (arith, c.outstanding_after-left.ensures _ met, started-bound a.calendar.now _ a.table.now c.requires.book.fits less)

pub returns : goal.returns
returns c =
    let a = c.args in
    let calendar = a.calendar.now in
    let table = a.table.now in
    let book : Book = book_of a.scalars (rows_of a.held.now a.kinds.now a.units.now) in
    let fits = c.requires.book.fits in
    let redeemed = c.maturity_plan-redeemed in
    let today = c.day_number-today.ensures in
    let payment = c.payment_day-payment.ensures in
    let less = a.known.outstanding.0 - redeemed.result.sheets.0 in
    let matured = sheets-planned calendar book table fits _ _ today payment redeemed.result redeemed.ensures in
    let less-is = rest-is calendar book table fits _ _ c.requires.sheets matured in
    let met = c.closing_of-closing.ensures calendar a.kinds.now a.units.now today payment in
    let left-is = c.outstanding_after-left.ensures book met in
    let redeemable = subst (λ (day : ℕ). Redeemable table a.scalars.trades day) (sym payment) (fit-redeemable calendar book table fits c.requires.book.few) in (
      record {
        matured = matured;
        amount = amount-planned calendar book table fits _ _ today payment redeemed.result redeemed.ensures;
        started = ap fen (principal-planned calendar book table fits less _ less-is left-is);
        outstanding = less-is;
        left = left-planned calendar book table fits less _ less-is left-is;
        today = today;
        met = met;
      },
      record {
        amount = rw redeemed.ensures (maturity-bound _ _ _ redeemable _);
        started = omega (arith, left-is, started-bound calendar book table fits less);
        outstanding = omega (arith, rest-within calendar book table fits _ _ c.requires.sheets matured);
        day = omega (arith, today, today-within _ _ _ fits c.requires.book.few);
      },
    )
