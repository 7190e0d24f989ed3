use Rattle.ledger.proofs.PackingLaws.{Summary}
use Rattle.ledger.proofs.packing.move_up.Given as goal

abbrev pub invariant-loop-i : goal.invariant-loop-i
invariant-loop-i l = Summary l.initial.table l.count l.table l.kept l.i
