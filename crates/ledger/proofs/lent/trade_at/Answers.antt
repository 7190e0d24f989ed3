use mathlib.Core.Path.{sym, ◌∙◌}
use native.Mathlib.Omega.{arith}
use lib.ListN.{get_or-eq_default}
use Rattle.rules.specs.Trades.{no_trade}
use Rattle.ledger.specs.Flat.{capacity, trades_of}
use Rattle.ledger.proofs.FlatLaws.{length-trades, trade-at}
use Rattle.ledger.proofs.lent.trade_at.Goals as goal

pub returns-then-place-table : goal.returns-then-place-table
returns-then-place-table c =
    let a = c.args in
    c.no_trade.ensures ∙ sym (get_or-eq_default (trades_of a.table.now) no_trade (omega (arith, c.if-place-table.true, length-trades a.table.now (capacity a.table.now))))

pub trade_at-requires : goal.trade_at-requires
trade_at-requires c =
    omega (arith, c.if-place-table.false)

pub returns : goal.returns
returns c =
    c.trade_at.ensures ∙ sym (trade-at _ _ c.if-place-table.false)
