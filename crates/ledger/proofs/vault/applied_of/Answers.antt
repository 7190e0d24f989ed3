use Rattle.std.specs.Prelude.{◌≡◌, ◌+◌}
use mathlib.Core.Path.{sym, ap, ◌∙◌}
use native.Mathlib.Omega.{arith}
use borrow.Author.Tests.{eq-eqb, ne_eqb}
use Rattle.rules.specs.Folds.{sum_below}
use Rattle.rules.specs.Withdraw.{applied}
use Rattle.rules.proofs.FitParts.{withdrawals-fit}
use Rattle.ledger.specs.Types.{Withdrawals}
use Rattle.ledger.proofs.SumLaws.{sum-none, sum_more}
use Rattle.ledger.proofs.VaultLaws.{applied_at, applied-at-bound}
use Rattle.ledger.proofs.vault.applied_of.Goals as goal
use Rattle.ledger.proofs.vault.applied_of.Goals.{then-kinds-i, else-kinds-i}

pub loop-i-init : goal.loop-i-init
loop-i-init c = ((withdrawals-fit _ c.requires).count, sym (sum-none _), omega arith)

pub bounds-kinds-i : goal.bounds-kinds-i
bounds-kinds-i c = omega (arith, c.loop-i.invariant.0, c.loop-i-test.true)

pub bounds-units-i : goal.bounds-units-i
bounds-units-i c = omega (arith, c.loop-i.invariant.0, c.loop-i-test.true)

pub overflow_add-sum : goal.overflow_add-sum
overflow_add-sum c =
    let small = ((withdrawals-fit _ c.requires).each c.loop-i.i c.loop-i-test.true).within in
    omega (arith, small, c.loop-i.invariant.0, c.loop-i.invariant.2, c.loop-i-test.true)

pub loop-i-preserved : goal.loop-i-preserved
loop-i-preserved c =
    let a = c.args in
    let asked : Withdrawals = record { kinds = a.kinds.now; units = a.units.now; count = a.count } in
    let added : c.if-kinds-i.sum ≡ c.loop-i.sum + applied_at asked a.kind c.loop-i.i =
    elim c.if-kinds-i.branch [
      | then-kinds-i w ↦ rw (eq-eqb _ _ w.if-kinds-i.true) w.sum-is
      | else-kinds-i w ↦ rw (ne_eqb _ _ w.if-kinds-i.false) (omega (arith, w.sum-is))
    ] in
    let bound = applied-at-bound asked c.requires a.kind c.loop-i.i c.loop-i-test.true in
    (c.loop-i.invariant.0, rw (sum_more (applied_at asked a.kind) c.loop-i.i) (rw c.loop-i.invariant.1 at added), omega (arith, added, bound, c.loop-i.invariant.2))

pub returns : goal.returns
unfolding applied
returns c =
    let e : c.loop-i.i ≡ c.args.count = omega arith in
    c.loop-i.invariant.1 ∙ ap (λ n. sum_below n (applied_at (record { kinds = c.args.kinds.now; units = c.args.units.now; count = c.args.count }) c.args.kind)) e
