use Rattle.std.specs.Prelude.{◌<◌, ◌≤◌, length}
use mathlib.Core.Path.{◌∙◌}
use native.Mathlib.Omega.{arith}
use Rattle.ledger.specs.Flat.{trades_of, capacity}
use Rattle.ledger.proofs.FlatLaws.{length-trades}
use Rattle.ledger.proofs.PackingLaws.{one-freed}
use Rattle.ledger.proofs.packing.free_from.Goals as goal

pub loop-i-preserved : goal.loop-i-preserved
loop-i-preserved c =
    let loop = c.loop-i in
    let inside : loop.i < length (trades_of c.args.table.now) = omega (arith, c.requires.1, length-trades c.args.table.now (capacity c.args.table.now)) in
    let past : c.args.from ≤ loop.i = omega arith in
    (c.free.auto.table ∙ loop.invariant.0, c.free.ensures ∙ rw loop.invariant.1 (one-freed _ _ _ past inside))
