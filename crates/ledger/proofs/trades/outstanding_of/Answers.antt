use Rattle.std.proofs.lemmas.Iterator.{YieldsList-from_map}
use Rattle.std.proofs.lemmas.Iterator.Consumers.{sum_by_from_yields_List, fits_by_from_yields_list}
use mathlib.Core.Path.{◌∙◌}
use native.Mathlib.Omega.{arith}
use borrow.Author.Rules.{rules}
use Rattle.money.specs.Limits.{trade_limit}
use Rattle.rules.specs.Trades.{outstanding}
use Rattle.rules.proofs.TradeLaws.{sheets_of}
use Rattle.ledger.specs.Flat.{trades_to}
use Rattle.ledger.proofs.FlatLaws.{total_at_most}
use Rattle.ledger.proofs.TableChains.{places-give, total-is-sum}
use Rattle.ledger.proofs.RedemptionLaws.{kept-within}
use Rattle.ledger.proofs.trades.outstanding_of.Goals as goal

pub sum-requires-clause-fits : goal.sum-requires-clause-fits
sum-requires-clause-fits c =
    let table = c.args.table.now in
    let kept = c.requires in
    let bound = total_at_most sheets_of table trade_limit _ (λ i l. (kept-within _ _ kept i l).sheets) in
    fits_by_from_yields_list sheets_of (trades_to table c.args.count) _ _
    (YieldsList-from_map _ _ (places-give table _ c.map.ensures.source) c.map.ensures.closure (λ x r q k. search rules))
    (omega (arith, bound, kept.few, total-is-sum sheets_of (trades_to table c.args.count)))

pub returns : goal.returns
unfolding outstanding
returns c =
    let table = c.args.table.now in
    sum_by_from_yields_List sheets_of (trades_to table c.args.count) _ _ c.sum.ensures.ran
    (YieldsList-from_map _ _ (places-give table _ c.map.ensures.source) c.map.ensures.closure (λ x r q k. search rules))
    ∙ total-is-sum sheets_of _
