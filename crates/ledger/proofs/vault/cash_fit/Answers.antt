use Rattle.std.proofs.Common.{rules, arith}
use borrow.Author.Tests.{le-leb, lt-leb}
use Rattle.money.specs.Limits.{cash_limit}
use Rattle.rules.specs.Fit.{all_cash, cash_fit}
use Rattle.ledger.proofs.vault.cash_fit.Goals as goal

pub returns-then-saturating_add-le-CASH_LIMIT : goal.returns-then-saturating_add-le-CASH_LIMIT
unfolding cash_fit
returns-then-saturating_add-le-CASH_LIMIT c =
    rw (le-leb (all_cash c.args.cash c.args.guarantee) cash_limit (omega (arith, c.saturating_add-own.ensures, c.saturating_add-held.ensures, c.saturating_add.ensures))) (search rules)

pub returns-else-saturating_add-le-CASH_LIMIT : goal.returns-else-saturating_add-le-CASH_LIMIT
unfolding cash_fit
returns-else-saturating_add-le-CASH_LIMIT c =
    let over = c.if-saturating_add-le-CASH_LIMIT.false in
    rw (
      lt-leb c.saturating_add.result cash_limit over,
      lt-leb (all_cash c.args.cash c.args.guarantee) cash_limit (omega (arith, over, c.saturating_add-own.ensures, c.saturating_add-held.ensures, c.saturating_add.ensures)),
    )
