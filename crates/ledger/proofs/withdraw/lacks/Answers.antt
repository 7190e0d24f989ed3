use Rattle.std.specs.Prelude.{ℕ, ◌+◌, ◌≤◌, cond}
use native.Mathlib.Omega.{arith}
use Rattle.money.specs.Limits.{unit_limit, cash_limit}
use Rattle.money.specs.Collateral.{unit_limit_of}
use Rattle.rules.specs.Vault.{is_cash}
use Rattle.rules.proofs.FoldLaws.{by-test}
use Rattle.rules.proofs.FitParts.{cash-fits}
use Rattle.ledger.specs.Kind.{kind_number}
use Rattle.ledger.specs.Flat.{securities_of, vault_of, rows_of, book_of}
use Rattle.ledger.proofs.KindLaws.{number_known}
use Rattle.ledger.proofs.VaultLaws.{kind_fits, applied-bound}
use Rattle.ledger.proofs.withdraw.lacks.Goals as goal
use Rattle.ledger.proofs.withdraw.lacks.Goals.{Else-had-count}

limit-within : (kind : ℕ) → unit_limit_of kind ≤ cash_limit
limit-within kind = by-test (λ cash. cond cash cash_limit unit_limit ≤ cash_limit) (is_cash kind) (λ _. omega arith) (λ _. omega arith)

-- what is asked for and what is frozen, where the effective units are enough for the first
few : (c : Else-had-count) → c.args.count + c.had_of-had.result.frozen ≤ 20000000000000000
few c =
    let a = c.args in
    let number = kind_number a.kind in
    let cash = cash-fits _ _ c.requires.cash in
    let fits = kind_fits (vault_of a.scalars.guarantee (securities_of a.held.now)) (c.requires.securities, cash.free, omega (arith, cash.sum)) number (number_known a.kind) in
    omega (arith, fits.free, fits.within, limit-within number, c.had_of-had.ensures.units, c.if-had-count.false)

pub overflow_add-result : goal.overflow_add-result
overflow_add-result c =
    omega (arith, few (goal.at.overflow_add-result c).Else-had-count)

pub overflow_add-result-2 : goal.overflow_add-result-2
overflow_add-result-2 c =
    let a = c.args in
    omega (
      arith,
      few (goal.at.overflow_add-result-2 c).Else-had-count,
      c.applied_of.ensures,
      applied-bound (book_of a.scalars (rows_of a.held.now a.kinds.now a.units.now)).withdrawals c.requires.withdrawals c.number.result,
    )
