use mathlib.Core.Path.{refl, sym}
use native.Mathlib.Omega.{arith}
use lib.Seq.{set_out}
use Rattle.ledger.specs.Flat.{capacity, trades_of}
use Rattle.ledger.proofs.FlatLaws.{length-trades}
use Rattle.ledger.proofs.lent.put_trade.Goals as goal

pub put_trade-requires : goal.put_trade-requires
put_trade-requires c =
    omega (arith, c.if-place-table.true)

pub returns-then-place-table : goal.returns-then-place-table
returns-then-place-table c =
    let put = c.put_trade in
    (put.ensures.0, λ k h. put.ensures.1 k (omega (arith, h, c.if-place-table.true)))

pub returns-else-place-table : goal.returns-else-place-table
returns-else-place-table c =
    let a = c.args in
    (sym (set_out (trades_of a.table.now) a.place a.trade (omega (arith, c.if-place-table.false, length-trades a.table.now (capacity a.table.now)))), λ k h. refl)
