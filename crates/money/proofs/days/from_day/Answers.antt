-- The lowest set bit of a word that is not 0 is the first trading day from the day asked for.
use Rattle.std.proofs.Common.{◌∙◌, refl}
use borrow.Author.Tests.{le-ltb}
use Rattle.money.specs.Days.{search_result}
use Rattle.money.proofs.Refusals.{skip, clear}
use Rattle.money.proofs.Words.{this-word}
use Rattle.money.proofs.days.from_day.Goals as goal

pub returns-then-masked-ne0 : goal.returns-then-masked-ne0
unfolding search_result
returns-then-masked-ne0 c =
    let at = c.loop-word in
    let bound = (c.type_inv.calendar at.word).fits in
    rw (at.invariant.1 ∙ this-word _ at.word at.bit c.loop-word-test.true at.invariant.0 bound c.if-masked-ne0.true)
    (rw (skip _ _ (le-ltb _ _ c.if-calendar-gt-CALENDAR_LIMIT.false) (skip _ _ refl clear)) refl)
