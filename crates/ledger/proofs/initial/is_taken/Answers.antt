use mathlib.Core.Path.{◌∙◌}
use native.Mathlib.Omega.{arith}
use Rattle.ledger.proofs.FlatLaws.{take-trades}
use Rattle.ledger.proofs.initial.is_taken.Goals as goal

pub returns : goal.returns
returns c =
    rw (take-trades c.args.table.now c.args.count (omega arith)) (c.is_some.ensures ∙ c.place_of.ensures.on_table)
