use native.Mathlib.Omega.{arith}
use lib.ListN.{length-set}
use Rattle.ledger.proofs.StoreLaws.{trade-put, behind}
use Rattle.ledger.proofs.flat.put_trade.Goals as goal

pub bounds-table-place-2 : goal.bounds-table-place-2
bounds-table-place-2 c =
    simp length-set (omega arith)

pub bounds-table-place-3 : goal.bounds-table-place-3
bounds-table-place-3 c =
    simp length-set (omega arith)

pub bounds-table-place-4 : goal.bounds-table-place-4
bounds-table-place-4 c =
    simp length-set (omega arith)

pub bounds-table-place-5 : goal.bounds-table-place-5
bounds-table-place-5 c =
    simp length-set (omega arith)

pub returns : goal.returns
returns c =
    let prices = c.paired.ensures in
    let days = c.paired-2.ensures in
    rw (prices.0, days.0)
    (trade-put c.args.table.now c.args.place c.args.trade c.requires (record { price = prices.1; fallback = prices.2; first = days.1; due = days.2 }), behind c.args.table.now c.args.place c.args.trade)
