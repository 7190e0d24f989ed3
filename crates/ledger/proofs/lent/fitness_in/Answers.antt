use mathlib.Core.Path.{refl}
use Rattle.ledger.specs.Lent.{lent}
use Rattle.ledger.proofs.LentLaws.{all_whole, unless-whole, by-fitness}
use Rattle.ledger.proofs.lent.fitness_in.Goals as goal

pub returns-in_err-held : goal.returns-in_err-held
returns-in_err-held c = rw c.from_residual.ensures (unless-whole _ _ (λ long. c.in_err-held.ensures.cases long.held))

pub returns-in_err-kinds : goal.returns-in_err-kinds
returns-in_err-kinds c = rw c.from_residual-in_err-kinds.ensures (unless-whole _ _ (λ long. c.in_err-kinds.ensures.cases long.kinds))

pub returns-in_err-units : goal.returns-in_err-units
returns-in_err-units c = rw c.from_residual-in_err-units.ensures (unless-whole _ _ (λ long. c.in_err-units.ensures.cases long.units))

pub returns-then-table-ne0 : goal.returns-then-table-ne0
returns-then-table-ne0 c = unless-whole _ _ (λ long. c.if-table-ne0.true long.table)

pub returns : goal.returns
returns c =
    let held = c.in_ok-held.ensures.cases in
    let kinds = c.in_ok-kinds.ensures.cases in
    let units = c.in_ok-units.ensures.cases in
    let calendar = c.in_ok-calendar.ensures in
    let before = lent c.args.scalars c.args.held.now c.args.kinds.now c.args.units.now c.args.table.now in
    let whole = all_whole before (record { held = held.long; kinds = kinds.long; units = units.long; table = c.if-table-ne0.false }) in
    rw (held.same, kinds.same, units.same, calendar.value, by-fitness _ _ whole (calendar.variant.0 refl)) at c.fitness_of.ensures
