use Rattle.std.specs.Prelude.{◌≡◌, ◌+◌, ◌<◌, ◌≤◌}
use borrow.Author.Rules.{rules}
use native.Mathlib.Omega.{arith}
use Rattle.money.specs.Limits.{unit_limit}
use Rattle.rules.specs.Vault.{security_at}
use Rattle.rules.specs.Pledge.{pledge_causes}
use Rattle.ledger.specs.Kind.{kind_number}
use Rattle.ledger.specs.Flat.{securities_of, vault_of}
use Rattle.ledger.proofs.Column.{column}
use Rattle.ledger.proofs.HeldLaws.{security-at-row}
use Rattle.ledger.proofs.HeldFit.{row_fits}
use Rattle.ledger.proofs.pledge.pledge_refusal.Goals as goal
use Rattle.ledger.proofs.pledge.pledge_refusal.Goals.{After-units_of}

within : (c : After-units_of) → c.units_of.result ≤ unit_limit
within c =
    let at = c.in-Security.at in
    omega (arith, c.units_of.ensures, (row_fits c.args.held.now c.args.scalars.guarantee c.requires at.number at.known).units)

pub overflow_sub-units_of : goal.overflow_sub-units_of
overflow_sub-units_of c = within (goal.at.overflow_sub-units_of c).After-units_of

pub returns-in-Security-clause-cause : goal.returns-in-Security-clause-cause
unfolding pledge_causes
returns-in-Security-clause-cause c kinds amounts =
    let a = c.args in
    let at = c.in-Security.at in
    let told : kind_number c.in_ok-kind.kind ≡ a.kind = search rules in
    let read : at.number ≡ a.kind = rw c.in-Security.is at told in
    let known : a.kind < 32 = omega (arith, at.known) in
    let bound : a.kind ≤ 32 = omega arith in
    let other : a.kind ≡ 32 → ⊥ = λ e. omega arith in
    let row = security-at-row a.held.now a.scalars.guarantee a.kind known in
    let security = security_at (vault_of a.scalars.guarantee (securities_of a.held.now)) a.kind in
    let over : unit_limit < security.effective + security.arriving + a.units =
    rw row (omega (arith, within (goal.at.returns-in-Security-clause-cause c).After-units_of, rw read at c.units_of.ensures)) in
    search column depth 20

pub returns-in_default-clause-cause : goal.returns-in_default-clause-cause
unfolding pledge_causes
returns-in_default-clause-cause c kinds amounts =
    let a = c.args in
    let at = c.in-Security.at in
    let told : kind_number c.in_ok-kind.kind ≡ a.kind = search rules in
    let read : at.number ≡ a.kind = rw c.in-Security.is at told in
    let known : a.kind < 32 = omega (arith, at.known) in
    let bound : a.kind ≤ 32 = omega arith in
    let other : a.kind ≡ 32 → ⊥ = λ e. omega arith in
    let row = security-at-row a.held.now a.scalars.guarantee a.kind known in
    let security = security_at (vault_of a.scalars.guarantee (securities_of a.held.now)) a.kind in
    let room : security.effective + security.arriving + a.units ≤ unit_limit =
    rw row (omega (arith, within (goal.at.returns-in_default-clause-cause c).After-units_of, rw read at c.units_of.ensures)) in
    search column depth 20
