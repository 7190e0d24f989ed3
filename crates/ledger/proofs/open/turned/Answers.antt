use mathlib.Core.Path.{refl, sym, ap, ◌∙◌}
use Rattle.rules.specs.Open.{opened_table}
use Rattle.ledger.specs.Flat.{book_of, trades_of}
use Rattle.ledger.proofs.Fitting.{refuted, upheld}
use Rattle.ledger.proofs.OpenLaws.{not-closed, no-day-to-open, none-unless-ended}
use Rattle.std.specs.Prelude.{not}
use Rattle.ledger.proofs.open.turned.Goals as goal

-- past the first two tests

pub returns-then-not-is_closed : goal.returns-then-not-is_closed
returns-then-not-is_closed c rows =
    let e = not-closed c.args.calendar.now (book_of c.args.scalars rows) (trades_of c.args.table.now) (refuted c.is_closed.ensures (ap not c.if-not-is_closed.true)) in
    (rw e refl, rw e refl, sym e)

pub returns-then-not-opens : goal.returns-then-not-opens
returns-then-not-opens c rows =
    let closed = upheld c.is_closed.ensures (ap not c.if-not-is_closed.false) in
    let e = no-day-to-open c.args.calendar.now (book_of c.args.scalars rows) (trades_of c.args.table.now) closed (refuted c.opens.ensures (ap not c.if-not-opens.true)) in
    (rw e refl, rw e refl, sym e)

pub returns : goal.returns
unfolding opened_table
returns c rows =
    let closed = upheld c.is_closed.ensures (ap not c.if-not-is_closed.false) in
    let follows = upheld c.opens.ensures (ap not c.if-not-opens.false) in
    let stays = sym c.turns_terminated.ensures ∙ c.if-turns_terminated.false in
    let e = none-unless-ended c.args.calendar.now (book_of c.args.scalars rows) (trades_of c.args.table.now) closed follows stays in
    (rw (c.accepted.ensures, e, c.opened_standing-after.ensures, stays) refl, rw (e, stays) refl, sym e)
