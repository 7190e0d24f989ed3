use Rattle.std.proofs.Common.{rules, ◌∙◌}
use Rattle.ledger.specs.Types.{Withdrawals}
use Rattle.ledger.proofs.VaultLaws.{application_at, fit_each}
use Rattle.ledger.proofs.RangeLaws.{all-over}
use Rattle.ledger.proofs.vault.withdrawals_fit.Goals as goal

pub returns-then-count-le-APPLICATION_LIMIT : goal.returns-then-count-le-APPLICATION_LIMIT
returns-then-count-le-APPLICATION_LIMIT c =
    let a = c.args in
    let asked : Withdrawals = record { kinds = a.kinds.now; units = a.units.now; count = a.count } in
    all-over a.count (application_at asked) _ c.all.ensures.ran (λ k b q called. search rules) ∙ fit_each asked c.if-count-le-APPLICATION_LIMIT.true
