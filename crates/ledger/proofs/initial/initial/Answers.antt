use Rattle.std.specs.Prelude.{[]}
use mathlib.Core.Path.{refl, ◌∙◌}
use native.Mathlib.Omega.{arith}
use Rattle.money.specs.Money.{principal}
use Rattle.rules.specs.Initial.{initial_book, initial_table}
use Rattle.ledger.specs.Flat.{rows_of}
use Rattle.ledger.proofs.Refusing.{carried_out}
use Rattle.ledger.proofs.NetLaws.{within-limit}
use Rattle.ledger.proofs.FitFacts.{fit-keeps, fit-net}
use Rattle.ledger.proofs.InitialLaws.{initial-begins}
use Rattle.ledger.proofs.initial.initial.Goals as goal

pub put_trade-requires : goal.put_trade-requires
put_trade-requires c = omega (arith, (initial-begins _ _ _ _ (c.in_ok-initial_refusal.ensures [] [])).room)

pub principal_of-requires : goal.principal_of-requires
principal_of-requires c = omega (arith, (initial-begins _ _ _ _ (c.in_ok-initial_refusal.ensures [] [])).few)

pub less-requires : goal.less-requires
unfolding principal
less-requires c =
    let begun = initial-begins _ _ _ _ (c.in_ok-initial_refusal.ensures [] []) in
    (omega (arith, within-limit c.args.scalars.nets.today.0 (fit-net _ _ _ c.requires.book.fits)), rw c.principal_of.ensures (omega (arith, begun.few)))

pub returns : goal.returns
unfolding initial_book initial_table
returns c kinds units =
    let none-applies = c.in_ok-initial_refusal.ensures kinds units in
    let rows = rows_of c.args.held.now kinds units in (
      carried_out _ _ rows _ _ none-applies c.accepted.ensures (rw (c.with_nets_and_trades.ensures, c.less.ensures, c.principal_of.ensures)),
      c.put_trade.ensures.0 ∙ rw (c.begun_trade.ensures rows, ← none-applies) refl,
    )

pub overflow_add-place : goal.overflow_add-place
overflow_add-place c =
    omega (arith, (fit-keeps _ _ _ c.requires.book.fits).few)
