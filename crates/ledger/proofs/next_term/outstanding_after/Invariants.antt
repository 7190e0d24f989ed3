use Rattle.std.proofs.Common.{◌≡◌, ◌+◌, ◌≤◌, ◌*◌}
use Rattle.rules.specs.NextTerm.{started_from}
use Rattle.ledger.specs.Types.{Book}
use Rattle.ledger.specs.Flat.{trades_to}
use Rattle.ledger.specs.NextTerm.{Meets}
use Rattle.rules.specs.Trades.{outstanding}
use Rattle.ledger.proofs.next_term.outstanding_after.Given as goal

abbrev pub invariant-loop-place : goal.invariant-loop-place
invariant-loop-place l =
    (l.sum.0 ≤ l.initial.sum.0 + l.place * 100000000)
    × ((book : Book) → Meets l.calendar book l.closing l.held → l.sum.0 ≡ l.initial.sum.0 + outstanding (started_from l.calendar book l.initial.sum.0 (trades_to l.table l.place)))
