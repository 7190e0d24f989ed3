use Rattle.std.specs.Prelude.{◌≤◌}
use Rattle.std.proofs.Common.{rules}
use native.Mathlib.Omega.{arith}
use Rattle.money.specs.Limits.{cash_limit}
use Rattle.rules.proofs.FitParts.{cash-fits}
use Rattle.ledger.proofs.figures.value_known.Goals as goal

pub unwrap_or_else-requires : goal.unwrap_or_else-requires
unwrap_or_else-requires c =
    let cash = cash-fits _ _ c.requires.1 in
    let within : c.args.scalars.guarantee.effective.0 ≤ cash_limit = omega (arith, cash.sum) in
    let vault = c.requires.0 in
    search rules
