use Rattle.ledger.proofs.ChainLaws.{Linked}
use Rattle.ledger.proofs.chains.linked_differ.Given as goal

abbrev pub invariant-loop-place : goal.invariant-loop-place
invariant-loop-place g l = Linked l.table l.count g.row.BUCKETS l.heads l.next l.place
