use Rattle.std.specs.Prelude.{◌≡◌, Some}
use mathlib.Core.Path.{sym, ◌∙◌}
use native.Mathlib.Omega.{arith}
use Rattle.journal.specs.Sections.{section_at}
use Rattle.journal.proofs.SectionLaws.{Read, read, past-whole, past-cut}
use Rattle.journal.proofs.section.past_section.Goals as goal

pub returns-in_default : goal.returns-in_default
returns-in_default c =
    past-cut _ _ _ _ (sym c.section_at.ensures.0 ∙ c.in_default.is)

pub overflow_add-result : goal.overflow_add-result
overflow_add-result c =
    let section-read : let a = c.args in section_at a.pieces.limit a.pieces.width a.at a.journal.now ≡ Some c.in-Some.count = sym c.section_at.ensures.0 ∙ c.in-Some.is in
    let inside : let a = c.args in Read a.pieces.limit a.pieces.width a.at a.journal.now c.in-Some.count = read _ _ _ _ _ section-read in
    omega (arith, inside.room, c.well_formed)

pub returns : goal.returns
returns c =
    let section-read : let a = c.args in section_at a.pieces.limit a.pieces.width a.at a.journal.now ≡ Some c.in-Some.count = sym c.section_at.ensures.0 ∙ c.in-Some.is in
    past-whole _ _ _ _ _ section-read
