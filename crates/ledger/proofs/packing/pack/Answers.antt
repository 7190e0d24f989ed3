use Rattle.std.specs.Prelude.{◌≤◌, length}
use mathlib.Core.Path.{sym, ap, ◌∙◌}
use native.Mathlib.Omega.{arith}
use lib.Seq.{length-take-le}
use Rattle.ledger.specs.Flat.{capacity, trades_of}
use Rattle.ledger.proofs.FlatLaws.{length-trades}
use Rattle.ledger.proofs.PackingLaws.{moved-up-freed}
use Rattle.ledger.proofs.packing.pack.Goals as goal

pub returns : goal.returns
returns c =
    let moved = c.move_up-kept in
    let inside : moved.result ≤ length (trades_of moved.new.table) = omega (arith, length-trades moved.new.table (capacity moved.new.table), moved.auto.table, moved.ensures.few, c.requires) in (
      sym (length-take-le _ _ inside) ∙ ap length moved.ensures.front,
      c.free_from.ensures ∙ moved-up-freed _ _ _ _ _ inside moved.ensures.front moved.ensures.rest,
    )
