use mathlib.Core.Path.{refl}
use Rattle.ledger.specs.Flat.{rows_of}
use Rattle.ledger.proofs.Refusing.{turned_down}
use Rattle.ledger.proofs.OpenLaws.{forgotten}
use Rattle.ledger.proofs.open.open.Goals as goal

pub returns-in_err-opened : goal.returns-in_err-opened
returns-in_err-opened c kinds units =
    let rows = rows_of c.args.held.now kinds units in
    let left = c.in_err-opened.ensures rows in
    (turned_down _ _ rows _ _ _ _ c.from_residual.ensures.1 left.2 refl, left.1)

pub returns : goal.returns
returns c kinds units =
    let rows = rows_of c.args.held.now kinds units in
    let left = c.in_ok-opened.ensures rows in
    (forgotten _ _ rows _ _ _ left.2 left.0 (rw (c.forget.ensures.0, c.forget.ensures.1) refl), left.1)
