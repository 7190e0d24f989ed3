use Rattle.std.specs.Prelude.{◌≡◌, length}
use mathlib.Core.Path.{ap, ◌∙◌}
use native.Mathlib.Omega.{arith}
use Rattle.rules.specs.Trades.{remaining}
use Rattle.rules.specs.Close.{left_trades, claims_at_close, evening}
use Rattle.ledger.specs.Flat.{trades_of, securities_of, rows_of, book_of, evening_at}
use Rattle.ledger.proofs.CloseLaws.{trades-left, packed-left, claims-joined, rows-cleared, close-done}
use Rattle.ledger.specs.Types.{Book, Trade}
use Rattle.std.specs.Prelude.{List}
use Rattle.ledger.proofs.close.closed.Goals as goal

pub pack-kept-requires : goal.pack-kept-requires
pack-kept-requires c =
    omega (arith, c.requires.2.room, c.settle.auto.table)

pub returns : goal.returns
returns c plan nets unpaid =
    let a = c.args in
    let calendar = a.calendar.now in
    let book : Book = book_of a.scalars (rows_of a.held.now a.kinds.now a.units.now) in
    let trades : List Trade = trades_of a.table.now in
    let left : List Trade = left_trades calendar book trades in
    let o = a.plan.outstanding.0 in
    let settled = c.settle.ensures book plan.met plan.today in
    let ended = c.evening_end-ended in
    let clear = c.clear in
    let scalars = c.closed_scalars-next in
    let in-slots = trades-left calendar book a.table.now c.settle.new.table o plan.outstanding c.requires.2 c.settle.auto.table settled in
    let evening-over : evening_at ended.result (securities_of ended.new.held) ≡ evening book (claims_at_close calendar book left trades) =
    ended.ensures.0 ∙ ap (evening book) (claims-joined calendar book left trades _ a.unpaid plan.left unpaid) in
    let kept = c.pack-kept.ensures.0 ∙ ap (λ l. length (remaining l)) in-slots in
    let next = scalars.ensures calendar _ _ left trades nets unpaid evening-over ended.ensures.1 plan.left kept ended.ensures.2 in (
      rw c.of_close.ensures
          (close-done calendar book left trades a.plan.matured ended.result (securities_of ended.new.held) scalars.result (rows_of ended.new.held clear.new.kinds clear.new.units)
          plan.matured evening-over (rows-cleared _ _ clear.ensures.0 clear.ensures.1 next)),
      c.pack-kept.ensures.1 ∙ packed-left calendar book a.table.now c.settle.new.table o plan.outstanding c.requires.2 c.settle.auto.table settled,
    )
