use Rattle.cases.proofs.LedgerLaws.{Done}
use Rattle.cases.proofs.structs.first_trade.Given as goal

abbrev pub invariant-loop-event : goal.invariant-loop-event
invariant-loop-event l = Done l.event-index l.book l.table
