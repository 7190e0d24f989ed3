use Rattle.std.proofs.Common.{◌≡◌, ◌≤◌, ◌*◌}
use Rattle.rules.specs.Folds.{sum_below}
use Rattle.ledger.proofs.VaultLaws.{applied_at}
use Rattle.ledger.proofs.vault.applied_of.Given as goal

abbrev pub invariant-loop-i : goal.invariant-loop-i
invariant-loop-i l =
    (l.count ≤ 128) × (l.sum ≡ sum_below l.i (applied_at (record { kinds = l.kinds; units = l.units; count = l.count }) l.kind)) × (l.sum ≤ 10000000000000000 * l.i)
