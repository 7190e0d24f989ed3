use Rattle.std.proofs.Common.{◌≡◌, length}
use Rattle.rules.specs.Vault.{value as value_of}
use Rattle.rules.specs.Close.{claims_of}
use Rattle.rules.specs.Folds.{in_turn}
use Rattle.ledger.specs.Flat.{securities_of, postings_of, vault_of, evening_at}
use Rattle.ledger.proofs.EveningLaws.{asked, turn}
use Rattle.ledger.proofs.evening.applications.Given as goal

abbrev pub invariant-loop-kind : goal.invariant-loop-kind
invariant-loop-kind l =
    (evening_at l.evening (securities_of l.held)
    ≡ in_turn (length l.yielded) (turn l.served (claims_of l.claims.outstanding.0 l.claims.unpaid.0) (asked l.kinds l.units l.count)) (evening_at l.initial.evening (securities_of l.initial.held)))
    × (l.evening.value.0 ≡ value_of (vault_of l.evening.guarantee (securities_of l.held)))
    × (postings_of l.held ≡ postings_of l.initial.held)
