use Rattle.std.proofs.Common.{◌≡◌}
use Rattle.rules.specs.Close.{security_arrived}
use Rattle.ledger.specs.Flat.{securities_of, postings_of}
use Rattle.ledger.proofs.EveningLaws.{map_below}
use Rattle.ledger.proofs.evening.all_arrived.Given as goal

abbrev pub invariant-loop-kind : goal.invariant-loop-kind
invariant-loop-kind l =
    (securities_of l.held ≡ map_below security_arrived l.kind (securities_of l.initial.held)) × (postings_of l.held ≡ postings_of l.initial.held)
