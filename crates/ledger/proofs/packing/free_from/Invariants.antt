use Rattle.std.proofs.Common.{◌≡◌, length}
use Rattle.ledger.specs.Flat.{trades_of}
use Rattle.ledger.proofs.PackingLaws.{freed}
use Rattle.ledger.proofs.packing.free_from.Given as goal

abbrev pub invariant-loop-i : goal.invariant-loop-i
invariant-loop-i l = (length l.table ≡ length l.initial.table) × (trades_of l.table ≡ freed l.from l.i (trades_of l.initial.table))
