use mathlib.Core.Path.{sym}
use Rattle.ledger.proofs.FigureLaws.{unmoved}
use Rattle.ledger.proofs.figures.figures_after.Goals as goal

pub returns-then-number-ne0 : goal.returns-then-number-ne0
returns-then-number-ne0 c =
    sym (unmoved c.args.entry _ _ _ c.requires.1 c.if-number-ne0.true)

pub figures_moved-requires : goal.figures_moved-requires
figures_moved-requires c =
    (c.requires.0, (rw c.in-Some.is at c.requires.1).1 c.if-number-ne0.false)

pub returns-in_default : goal.returns-in_default
returns-in_default c =
    sym (rw c.in_default.is at c.requires.1)
