use Rattle.std.specs.Prelude.{Ok}
use mathlib.Core.Path.{sym, ap, ◌∙◌}
use Rattle.rules.specs.declared.answer.Covered.{Covered}
use Rattle.rules.specs.Cover.{cover_told}
use native.Mathlib.Omega.{arith}
use Rattle.rules.proofs.FitParts.{fit_parts}
use Rattle.ledger.proofs.StepLaws.{not-unfit}
use Rattle.ledger.proofs.CoverLaws.{fit-cover}
use Rattle.ledger.proofs.FigureLaws.{counted-from}
use Rattle.ledger.proofs.LentLaws.{fit-in, refused-cover, by-cover}
use Rattle.ledger.proofs.lent.cover.Goals as goal

pub returns-in_default : goal.returns-in_default
returns-in_default c = sym (refused-cover _ _ (rw c.in_default.is at c.fitness_in.ensures))

pub unwrap-held-requires : goal.unwrap-held-requires
unwrap-held-requires c = c.as_array.ensures.variant.1 (fit-in _ _ c.in-Some.ensures.0).long.held

pub figures_of-figures-requires : goal.figures_of-figures-requires
figures_of-figures-requires c =
    let found = fit-in _ _ c.in-Some.ensures.0 in
    let held = rw c.unwrap-held.ensures at c.as_array.ensures.cases in
    (c.args.calendar.now, record { kinds = c.args.kinds.now; units = c.args.units.now; few = found.few; fits = rw held.same found.fits })

pub cover_from-requires : goal.cover_from-requires
cover_from-requires c =
    let found = fit-in _ _ c.in-Some.ensures.0 in
    let size = (fit_parts _ _ _ found.fits).size in
    (size.within, rw c.figures_of-figures.ensures (omega (arith, size.within, size.covers)))

pub returns : goal.returns
returns c =
    let found = fit-in _ _ c.in-Some.ensures.0 in
    let held = rw c.unwrap-held.ensures at c.as_array.ensures.cases in
    ap (λ (covered : Covered). cover_told (Ok covered)) c.cover_from.ensures
    ∙ counted-from _ _ _ (rw held.same at c.figures_of-figures.ensures)
    ∙ sym (by-cover _ _ found.whole ∙ fit-cover _ _ _ (not-unfit _ _ _ found.fits found.few))
