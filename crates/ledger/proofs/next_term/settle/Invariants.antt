use Rattle.std.proofs.Common.{◌≡◌, ◌+◌, ◌≤◌, length, ◌*◌}
use Rattle.rules.specs.Trades.{over}
use Rattle.rules.specs.NextTerm.{left_from, started_from}
use Rattle.ledger.specs.Types.{Book}
use Rattle.ledger.specs.Flat.{trades_to, trades_of}
use Rattle.ledger.specs.NextTerm.{Meets}
use Rattle.rules.specs.Trades.{outstanding}
use Rattle.ledger.proofs.next_term.settle.Given as goal

abbrev pub invariant-loop-place : goal.invariant-loop-place
invariant-loop-place l =
    (length l.table ≡ length l.initial.table)
    × (l.sum.0 ≤ l.initial.sum.0 + l.place * 100000000)
    × ((book : Book) → Meets l.calendar book l.closing l.held
    → (l.sum.0 ≡ l.initial.sum.0 + outstanding (started_from l.calendar book l.initial.sum.0 (trades_to l.initial.table l.place)))
    × (trades_of l.table ≡ over l.place (left_from l.calendar book l.initial.sum.0 (trades_to l.initial.table l.place)) (trades_of l.initial.table)))
