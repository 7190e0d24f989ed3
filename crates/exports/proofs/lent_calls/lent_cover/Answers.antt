use mathlib.Core.Path.{◌∙◌}
use Rattle.exports.proofs.RawLaws.{some_if, none_if}
use Rattle.exports.proofs.lent_calls.lent_cover.Goals as goal

pub returns-in_default : goal.returns-in_default
returns-in_default c =
    rw (none_if _ _ (rw c.in_default.is at c.read.ensures)) c.into.ensures

pub returns : goal.returns
returns c =
    let formed = some_if _ _ _ c.in-Some.ensures in
    rw (formed.0, ← formed.1) (c.into-2.ensures ∙ c.cover.ensures)
