use Rattle.std.proofs.lemmas.Grind.{common_steps}
use Rattle.std.specs.Prelude.{◌≡◌, ◌≤◌, true}
use mathlib.Core.Path.{sym, ◌∙◌}
use native.Mathlib.Omega.{arith}
use borrow.Author.Rules.{rules}
use borrow.Author.Tests.{not-true, not-false}
use Rattle.money.specs.Limits.{trade_limit}
use Rattle.rules.specs.Fit.{trade_fit}
use Rattle.rules.proofs.TradeLaws.{sheets_of}
use Rattle.ledger.specs.Flat.{trade_at}
use Rattle.ledger.proofs.FlatLaws.{all_none, all_more, all-fails, total-none, total-more}
use Rattle.ledger.proofs.RedemptionLaws.{within_of}
use Rattle.ledger.proofs.SummaryLaws.{latest-none, latest-more, summary-unfit}
use mathlib.Core.Path.{ap}
use Rattle.std.specs.Prelude.{not}
use Rattle.ledger.proofs.trades.summary_of.Goals as goal

pub loop-place-init : goal.loop-place-init
loop-place-init c =
    (all_none trade_fit _, sym (total-none sheets_of _), search rules, sym (latest-none _))

pub returns-then-not-trade_fits : goal.returns-then-not-trade_fits
returns-then-not-trade_fits c =
    sym (summary-unfit _ (all-fails trade_fit _ _ _ c.loop-place-test.true (sym (rw c.trade_at-trade.ensures at c.trade_fits.ensures) ∙ not-true _ (ap not c.if-not-trade_fits.true))))

pub loop-place-preserved : goal.loop-place-preserved
loop-place-preserved c =
    let within : trade_fit (trade_at c.args.table.now c.loop-place.place) ≡ true = sym (rw c.trade_at-trade.ensures at c.trade_fits.ensures) ∙ not-false _ (ap not c.if-not-trade_fits.false) in
    let few : (trade_at c.args.table.now c.loop-place.place).sheets.0 ≤ trade_limit = (within_of (trade_at c.args.table.now c.loop-place.place) within).sheets in
    let inv = c.loop-place.invariant in
    let sheets = c.trade_at-trade.ensures in (
      all_more trade_fit _ _ inv.0 within,
      rw (inv.1, sheets) (sym (total-more sheets_of _ _)),
      rw sheets (omega (arith, few, inv.2)),
      grind (arith, common_steps, latest-more c.args.table.now c.loop-place.place),
    )
