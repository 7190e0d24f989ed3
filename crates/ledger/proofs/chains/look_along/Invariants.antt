use Rattle.std.proofs.Common.{◌≤◌}
use Rattle.ledger.proofs.ChainLaws.{Ahead}
use Rattle.ledger.proofs.chains.look_along.Given as goal

abbrev pub invariant-loop : goal.invariant-loop
invariant-loop l = (l.link ≤ l.from) × (Ahead l.table l.next l.from l.fn.contract l.link)
