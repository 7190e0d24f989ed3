use Rattle.std.proofs.Common.{rules, ◌∙◌}
use Rattle.rules.specs.Fit.{security_fit}
use Rattle.ledger.specs.Flat.{security_in}
use Rattle.ledger.proofs.HeldLaws.{fit-each}
use Rattle.ledger.proofs.RangeLaws.{all-over}
use Rattle.ledger.proofs.vault.securities_fit.Goals as goal

pub returns : goal.returns
returns c guarantee =
    let held = c.args.held.now in
    all-over 32 (λ kind. security_fit (security_in held kind)) _ c.all.ensures.ran (λ k b q called. search rules) ∙ fit-each held guarantee
