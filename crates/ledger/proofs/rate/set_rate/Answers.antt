use Rattle.std.specs.Prelude.{◌≡◌, ◌<◌}
use borrow.Author.Rules.{rules}
use native.Mathlib.Omega.{arith}
use Rattle.rules.specs.Rate.{rated, with_rate}
use Rattle.ledger.specs.Flat.{security_in, rows_of}
use Rattle.ledger.proofs.HeldLaws.{security-at-row}
use Rattle.ledger.proofs.Refusing.{carried_out}
use Rattle.ledger.proofs.rate.set_rate.Goals as goal

pub returns : goal.returns
unfolding rated
returns c kinds units =
    let a = c.args in
    let told = c.in_ok-at.ensures in
    let known : a.kind < 32 = omega (arith, told.read, c.in_ok-at.at.known) in
    let here = security-at-row a.held.now a.scalars.guarantee a.kind known in
    let changed = c.change.ensures in
    let made : changed.0 ≡ with_rate a.rate (security_in a.held.now c.in_ok-at.at.number) = search rules in
    carried_out _ _ (rows_of a.held.now kinds units) _ _ told.cause c.accepted.ensures
    (rw (changed.2, changed.3, made, told.read, here))
