use mathlib.Core.Path.{sym, ◌∙◌}
use Rattle.ledger.proofs.PackingLaws.{none_passed, passed-by, moved_up}
use Rattle.ledger.proofs.packing.move_up.Goals as goal
use Rattle.ledger.proofs.packing.move_up.Goals.{then-sheets_at-ne0, else-sheets_at-ne0}

pub loop-i-init : goal.loop-i-init
loop-i-init c =
    none_passed _ _ c.requires

pub loop-i-preserved : goal.loop-i-preserved
loop-i-preserved c =
    elim c.if-sheets_at-ne0.branch [
      | then-sheets_at-ne0 w ↦ rw (w.table-is, w.kept-is) (moved_up _ _ _ _ _ c.loop-i.invariant c.loop-i-test.true _ w.move_trade.auto.table w.move_trade.ensures (λ z. w.if-sheets_at-ne0.true (c.sheets_at.ensures ∙ z)))
      | else-sheets_at-ne0 w ↦ rw (w.table-is, w.kept-is) (passed-by _ _ _ _ _ c.loop-i.invariant c.loop-i-test.true (sym c.sheets_at.ensures ∙ w.if-sheets_at-ne0.false))
    ]
