use Rattle.std.proofs.Common.{sym, refl, ◌∙◌}
use Rattle.exports.proofs.RawLaws.{scalars-back, some_if, none_if}
use mathlib.Core.Bool.{false≢true}
use Rattle.exports.proofs.lent_calls.lent_apply.Goals as goal

pub returns-in_default : goal.returns-in_default
returns-in_default c =
    let malformed = none_if _ _ (rw c.in_default.is at c.read.ensures) in
    (λ z. absurd (false≢true (sym malformed ∙ z)), λ z. rw c.refused.ensures (refl, refl))

pub returns : goal.returns
returns c =
    let applied = c.apply-done in
    let formed = some_if _ _ _ c.in-Some.ensures in (
      λ z. rw (c.of_done.ensures, scalars-back applied.result.scalars, ← formed.1, ← c.decode-entry.ensures.0) (applied.ensures.0, refl, applied.ensures.1),
      λ z. absurd (false≢true (sym z ∙ formed.0)),
    )
