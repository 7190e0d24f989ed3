use Rattle.std.specs.Prelude.{◌≡◌, ◌≤◌}
use mathlib.Core.Path.{refl, sym}
use mathlib.Core.Option.{none}
use native.Mathlib.Omega.{arith}
use borrow.Author.Tests.{ltb-false}
use Rattle.money.specs.declared.units.Fen.{Fen}
use Rattle.money.specs.Causes.{first_of}
use Rattle.rules.specs.Funds.{holds, fund_out_causes, funded_out}
use Rattle.rules.proofs.Accepted.{all-clear}
use Rattle.ledger.specs.Types.{Book, Account}
use Rattle.ledger.specs.Flat.{book_of}
use Rattle.ledger.proofs.Refusing.{no_rows, turned_down, carried_out}
use Rattle.ledger.proofs.funds.fund_out.Goals as goal

covered : (book : Book) (account : Account) (amount : Fen) → none ≡ first_of (fund_out_causes book account amount) → amount.0 ≤ holds account book.cash
unfolding fund_out_causes
covered book account amount e = ltb-false (holds account book.cash) amount.0 (all-clear (fund_out_causes book account amount) (sym e) 13)

pub returns-in_err-fund_out_refusal : goal.returns-in_err-fund_out_refusal
returns-in_err-fund_out_refusal c rows =
    turned_down _ _ rows _ _ _ _ c.from_residual.ensures.1 (c.in_err-fund_out_refusal.ensures rows) refl

pub returns : goal.returns
unfolding funded_out
returns c rows =
    carried_out _ _ rows _ _ (c.in_ok-fund_out_refusal.ensures rows) c.accepted.ensures (rw (c.with_account-cash.ensures, c.balance-held.ensures))

pub overflow_sub-rest : goal.overflow_sub-rest
overflow_sub-rest c =
    omega (arith, c.balance-held.ensures, covered (book_of c.args.scalars no_rows) c.args.account c.args.amount (c.in_ok-fund_out_refusal.ensures no_rows))
