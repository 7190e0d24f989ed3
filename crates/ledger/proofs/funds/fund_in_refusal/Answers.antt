use Rattle.std.specs.Prelude.{◌≤◌}
use native.Mathlib.Omega.{arith}
use Rattle.money.specs.Limits.{cash_limit}
use Rattle.rules.specs.Fit.{all_cash}
use Rattle.rules.proofs.FitParts.{cash-fits}
use Rattle.ledger.proofs.funds.fund_in_refusal.Goals as goal

pub overflow_add-cash : goal.overflow_add-cash
overflow_add-cash c =
    let cash-within : all_cash c.args.scalars.cash c.args.scalars.guarantee ≤ cash_limit = (cash-fits _ _ c.requires).sum in
    omega (arith, cash-within)

pub overflow_add-cash-2 : goal.overflow_add-cash-2
overflow_add-cash-2 c =
    let cash-within : all_cash c.args.scalars.cash c.args.scalars.guarantee ≤ cash_limit = (cash-fits _ _ c.requires).sum in
    omega (arith, cash-within)

pub overflow_add-cash-3 : goal.overflow_add-cash-3
overflow_add-cash-3 c =
    let cash-within : all_cash c.args.scalars.cash c.args.scalars.guarantee ≤ cash_limit = (cash-fits _ _ c.requires).sum in
    omega (arith, cash-within)

pub overflow_sub-cash : goal.overflow_sub-cash
overflow_sub-cash c =
    let cash-within : all_cash c.args.scalars.cash c.args.scalars.guarantee ≤ cash_limit = (cash-fits _ _ c.requires).sum in
    omega (arith, cash-within)
