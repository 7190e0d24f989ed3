use Rattle.std.specs.Prelude.{◌≡◌, true, not}
use mathlib.Core.Path.{sym, ap, ◌∙◌}
use native.Mathlib.Omega.{arith}
use Rattle.rules.specs.Trades.{outstanding}
use Rattle.rules.specs.Fit.{fit}
use Rattle.ledger.specs.Flat.{rows_of, book_of, trades_of}
use Rattle.rules.proofs.FitParts.{capacity-fits}
use Rattle.ledger.proofs.SummaryLaws.{summary-where, summary-none, fit-with}
use Rattle.ledger.proofs.FitFacts.{room-where-fit, fit-in-use}
use Rattle.ledger.proofs.Fitting.{fitting, upheld, by-flat-tests, unfit-trades}
use Rattle.ledger.proofs.fit.fitness_of.Goals as goal

pub returns-then-not-capacity_fit : goal.returns-then-not-capacity_fit
returns-then-not-capacity_fit c = sym (by-flat-tests _ _ _ _ (search fitting depth 12))

pub summary_of-requires : goal.summary_of-requires
summary_of-requires c =
    let fits = upheld c.capacity_fit.ensures (ap not c.if-not-capacity_fit.false) in
    let capacity = capacity-fits _ _ fits in
    (room-where-fit _ _ fits, omega (arith, capacity.within, capacity.room))

pub returns-in_err-summary : goal.returns-in_err-summary
returns-in_err-summary c =
    let book = book_of c.args.scalars (rows_of c.args.held.now c.args.kinds.now c.args.units.now) in
    rw c.from_residual.ensures (unfit-trades c.args.calendar.now book c.args.table.now (summary-none _ (sym c.summary_of.ensures ∙ c.in_err-summary.was)))

pub is_fit-requires : goal.is_fit-requires
is_fit-requires c =
    (upheld c.capacity_fit.ensures (ap not c.if-not-capacity_fit.false), sym c.summary_of.ensures ∙ c.in_ok-summary.was)

pub returns : goal.returns
returns c =
    let told = summary-where _ _ (sym c.summary_of.ensures ∙ c.in_ok-summary.was) in
    let book = book_of c.args.scalars (rows_of c.args.held.now c.args.kinds.now c.args.units.now) in
    let counted = λ (fits : fit c.args.calendar.now book (trades_of c.args.table.now) ≡ true). told.1 ∙ ap outstanding (sym (fit-in-use _ _ _ fits)) in
    rw c.then_some.ensures (fit-with _ _ _ _ c.is_fit.ensures counted)
