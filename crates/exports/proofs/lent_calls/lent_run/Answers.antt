use Rattle.std.proofs.Common.{sym, refl, ◌∙◌}
use Rattle.exports.proofs.RawLaws.{scalars-back, some_if, none_if, refused-by-number}
use mathlib.Core.Bool.{false≢true}
use Rattle.exports.proofs.lent_calls.lent_run.Goals as goal

pub returns-in_default : goal.returns-in_default
returns-in_default c =
    let malformed = none_if _ _ (rw c.in_default.is at c.read.ensures) in
    (λ z. absurd (false≢true (sym malformed ∙ z)), λ z. rw c.refused_run.ensures (refl, refl, refl))

pub returns : goal.returns
returns c =
    let ran = c.run-ended in
    let formed = some_if _ _ _ c.in-Some.ensures in (
      λ z. rw (c.of_run.ensures, scalars-back _, ← formed.1) (ran.ensures.0, refl, λ e. ran.ensures.1 (refused-by-number _ e)),
      λ z. absurd (false≢true (sym z ∙ formed.0)),
    )
