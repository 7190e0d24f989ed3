use Rattle.ledger.proofs.flat.move_trade.Goals as goal

pub returns : goal.returns
returns c =
    rw (← c.trade_at-trade.ensures) c.put_trade.ensures.0
