use Rattle.std.proofs.Common.{arith, ◌-◌, ◌≤◌, ap}
use Rattle.std.specs.Prelude.{not}
use borrow.Author.Tests.{not-true, not-false}
use Rattle.money.specs.declared.units.Sheets.{Sheets}
use Rattle.money.specs.Collateral.{kind_value}
use Rattle.money.proofs.Bounds.{value-bound}
use Rattle.ledger.specs.Kind.{kind_number}
use Rattle.ledger.proofs.KindLaws.{number_known}
use Rattle.ledger.proofs.EveningLaws.{unserved, frozen-stay, judged-so, value_after}
use Rattle.ledger.proofs.evening.judged.Goals as goal
use Rattle.ledger.proofs.evening.judged.Goals.{then-not-served-via-then-not-served, then-not-served-via-else-not-served+then-had-units}

pub returns-then-not-served : goal.returns-then-not-served
returns-then-not-served c vault full e f r v =
    elim c.then-not-served.branch [
      | then-not-served-via-then-not-served w ↦ unserved _ _ _ _ vault (not-true _ (ap not w.if-not-served.true))
      | then-not-served-via-else-not-served+then-had-units w ↦ frozen-stay _ _ _ _ vault (not-false _ (ap not w.if-not-served.false)) (omega (arith, w.if-had-units.true, c.requires.0, e, f))
    ]

pub returns : goal.returns
returns c vault full e f r v =
    let after = value_after vault _ c.args.had c.args.units _ _ _ (record { effective = e; frozen = f; rate = r }) (number_known c.args.kind) full v c.requires.3 c.worth-with.ensures c.worth-without.ensures in
    rw c.then_some.ensures
    (judged-so _ _ _ _ vault c.covers.result _ (not-false _ (ap not c.if-not-served.false)) (omega (arith, e, f, c.requires.0, c.if-had-units.false)) after c.covers.ensures)

pub overflow_add-after : goal.overflow_add-after
overflow_add-after c =
    let had = c.args.had in
    let small : (kind_value (kind_number c.args.kind) (had.effective - c.args.units) had.frozen had.rate).0 ≤ 2000000000000 = value-bound _ _ _ _ (omega (arith, c.requires.1)) c.requires.2 in
    omega (arith, small, ap (λ (v : Sheets). v.0) c.worth-without.ensures, c.requires.4)
