use native.Mathlib.Omega.{arith}
use Rattle.journal.proofs.SectionLaws.{early-count, past-limit, early-end, whole, told}
use Rattle.journal.proofs.section.section_at.Goals as goal

pub returns-then-left-lt-COUNT_BYTES : goal.returns-then-left-lt-COUNT_BYTES
returns-then-left-lt-COUNT_BYTES c =
    told _ _ _ _ (early-count _ _ _ _ (omega (arith, c.left_from-left.ensures)))

pub returns-then-count-pieces : goal.returns-then-count-pieces
returns-then-count-pieces c =
    told _ _ _ _ (past-limit _ _ _ _ _ c.number4-count.ensures (omega (arith, c.left_from-left.ensures)) c.if-count-pieces.true)

pub returns-then-left-taken : goal.returns-then-left-taken
returns-then-left-taken c =
    told _ _ _ _ (early-end _ _ _ _ _ c.number4-count.ensures (omega (arith, c.left_from-left.ensures)) c.if-count-pieces.false (omega (arith, c.left_from-left.ensures)))

pub returns : goal.returns
returns c =
    told _ _ _ _ (whole _ _ _ _ _ c.number4-count.ensures (omega (arith, c.left_from-left.ensures)) c.if-count-pieces.false (omega (arith, c.left_from-left.ensures)))
