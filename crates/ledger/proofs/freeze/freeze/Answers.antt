use Rattle.std.specs.Prelude.{◌≡◌, ◌<◌}
use native.Mathlib.Omega.{arith}
use borrow.Author.Rules.{rules}
use borrow.Author.Tests.{ne_eqb}
use Rattle.rules.specs.Freeze.{frozen, with_frozen}
use Rattle.ledger.specs.Flat.{security_in, rows_of}
use Rattle.ledger.proofs.HeldLaws.{security-at-row}
use Rattle.ledger.proofs.Refusing.{carried_out}
use Rattle.ledger.proofs.freeze.freeze.Goals as goal

pub returns-in-Security : goal.returns-in-Security
unfolding frozen
returns-in-Security c kinds amounts =
    let a = c.args in
    let at = c.in-Security.at in
    let read : at.number ≡ a.kind = rw c.in-Security.is at c.in_ok-kind.ensures.read in
    let known : a.kind < 32 = omega (arith, at.known) in
    let row = security-at-row a.held.now a.scalars.guarantee a.kind known in
    let changed = c.change.ensures in
    let made : changed.0 ≡ with_frozen a.units (security_in a.held.now at.number) = search rules in
    carried_out _ _ (rows_of a.held.now kinds amounts) _ _ (c.in_ok-kind.ensures.cause kinds amounts) c.accepted.ensures
    (rw (changed.2, changed.3, made, read, ne_eqb a.kind 32 (λ e. omega arith), row))
