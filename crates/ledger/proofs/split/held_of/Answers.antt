use Rattle.std.proofs.Common.{rules, arith, ◌≡◌, refl, ◌∙◌}
use Rattle.rules.specs.Book.{no_security, no_posting}
use Rattle.ledger.proofs.HeldLaws.{length-securities}
use Rattle.ledger.proofs.PostingLaws.{length-postings}
use Rattle.ledger.proofs.RowLaws.{none_filled, one-filled, all-filled}
use Rattle.ledger.proofs.split.held_of.Goals as goal

pub loop-kind-preserved : goal.loop-kind-preserved
loop-kind-preserved c =
    rw (c.put_security.ensures.0, c.new.ensures) (one-filled no_security _ _ _ _ (omega (arith, length-securities c.loop-kind.held 32)) c.loop-kind.invariant (rw c.from.ensures))

pub loop-number-init : goal.loop-number-init
loop-number-init c =
    let e : c.loop-kind.kind ≡ 32 = omega arith in
    (all-filled no_security _ _ 32 (length-securities _ 32) (search rules) (rw e at c.loop-kind.invariant), none_filled no_posting _ _)

pub loop-number-preserved : goal.loop-number-preserved
loop-number-preserved c =
    let put = c.put_posting.ensures in
    let inv = c.loop-number.invariant in
    (put.1 ∙ inv.0, rw put.0 (one-filled no_posting _ _ _ _ (omega (arith, length-postings c.loop-number.held)) inv.1 refl))

pub returns : goal.returns
returns c =
    let e : c.loop-number.number ≡ 16 = omega arith in
    let inv = c.loop-number.invariant in
    (inv.0, all-filled no_posting _ _ 16 (length-postings _) (search rules) (rw e at inv.1))
