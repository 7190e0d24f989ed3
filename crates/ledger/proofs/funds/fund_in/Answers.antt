use Rattle.std.specs.Prelude.{◌≡◌, ◌+◌, ◌≤◌}
use mathlib.Core.Path.{refl, sym}
use mathlib.Core.Option.{none}
use native.Mathlib.Omega.{arith}
use borrow.Author.Tests.{ltb-false}
use Rattle.money.specs.Limits.{cash_limit}
use Rattle.money.specs.declared.units.Fen.{Fen}
use Rattle.money.specs.Causes.{first_of}
use Rattle.rules.specs.Fit.{all_cash}
use Rattle.rules.specs.Funds.{holds, fund_in_causes, funded_in}
use Rattle.rules.proofs.Accepted.{all-clear}
use Rattle.ledger.specs.Types.{Book, Account, Own, Client}
use Rattle.ledger.specs.Flat.{book_of}
use Rattle.ledger.proofs.Refusing.{no_rows, turned_down, carried_out}
use Rattle.ledger.proofs.funds.fund_in.Goals as goal

-- an account holds at most all cash, so that there is room for the amount
room : (book : Book) (account : Account) (amount : Fen) → none ≡ first_of (fund_in_causes book account amount) → holds account book.cash + amount.0 ≤ cash_limit
unfolding fund_in_causes
room book account amount e = go account (ltb-false cash_limit (all_cash book.cash book.vault.guarantee + amount.0) (all-clear (fund_in_causes book account amount) (sym e) 14))
  where
    go : (account : Account) → all_cash book.cash book.vault.guarantee + amount.0 ≤ cash_limit → holds account book.cash + amount.0 ≤ cash_limit
    go Own h = omega arith
    go Client h = omega arith

pub returns-in_err-fund_in_refusal : goal.returns-in_err-fund_in_refusal
returns-in_err-fund_in_refusal c rows =
    turned_down _ _ rows _ _ _ _ c.from_residual.ensures.1 (c.in_err-fund_in_refusal.ensures rows) refl

pub returns : goal.returns
unfolding funded_in
returns c rows =
    carried_out _ _ rows _ _ (c.in_ok-fund_in_refusal.ensures rows) c.accepted.ensures (rw (c.with_account-cash.ensures, c.balance-held.ensures))

pub overflow_add-sum : goal.overflow_add-sum
overflow_add-sum c =
    omega (arith, c.balance-held.ensures, room (book_of c.args.scalars no_rows) c.args.account c.args.amount (c.in_ok-fund_in_refusal.ensures no_rows))
