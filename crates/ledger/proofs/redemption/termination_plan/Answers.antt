use mathlib.Core.Path.{ap}
use native.Mathlib.Omega.{arith}
use borrow.Author.Rules.{rules}
use Rattle.money.specs.declared.units.Sheets.{Sheets}
use Rattle.money.specs.declared.units.Ticks.{Ticks}
use Rattle.rules.specs.Trades.{outstanding}
use Rattle.rules.proofs.TradeLaws.{sheets_of}
use Rattle.ledger.specs.Flat.{trade_at}
use Rattle.ledger.specs.Redemption.{IsPart}
use Rattle.ledger.proofs.RedemptionLaws.{trade-within}
use Rattle.ledger.proofs.redemption.termination_plan.Goals as goal

pub plan-requires-clause-within : goal.plan-requires-clause-within
plan-requires-clause-within c place told below k =
    let trade = trade_at c.args.table.now place in
    let part : IsPart sheets_of (λ t. t.fallback) trade told = search rules in
    (omega (arith, ap (λ (q : Sheets). q.0) part.0), omega (arith, ap (λ (p : Ticks). p.0) part.1, (trade-within _ _ _ c.requires place below).fallback))

pub returns : goal.returns
unfolding outstanding
returns c =
    c.plan.ensures sheets_of (λ trade. trade.fallback) (λ place told below k. search rules)
