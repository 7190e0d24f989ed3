use Rattle.std.proofs.lemmas.Result.{err_from_is_err_and}
use mathlib.Core.Path.{refl, sym, ◌∙◌}
use mathlib.Core.Bool.{false≢true}
use Rattle.ledger.proofs.StepLaws.{not-unfit}
use Rattle.ledger.proofs.RunLaws.{lines_fit, bad-lengths, goes_on, ran-through}
use Rattle.ledger.proofs.LentLaws.{run-parts, fit-in, refused-run, by-run}
use Rattle.ledger.proofs.lent.run.Goals as goal

pub returns-in_default : goal.returns-in_default
returns-in_default c = (sym (refused-run _ _ _ _ (rw c.in_default.is at c.fitness_in-fitness.ensures)), λ z. refl)

pub returns-in_err-lengths_refusal : goal.returns-in_err-lengths_refusal
returns-in_err-lengths_refusal c =
    let fitness = rw c.in-Some.is at c.fitness_in-fitness.ensures in
    let found = fit-in _ _ fitness.0 in
    let told = bad-lengths _ _ _ _ _ (not-unfit _ _ _ found.fits found.few) _ c.in_err-lengths_refusal.ensures in
    let passed = err_from_is_err_and c.from_residual.result c.from_residual.ensures.1 in
    rw (passed.1, passed.2) (run-parts _ _ _ _ told.0 told.1 told.2 ∙ sym (by-run _ _ _ _ found.whole), λ z. refl)

pub unwrap-calendar-requires : goal.unwrap-calendar-requires
unwrap-calendar-requires c = c.of.ensures.variant.1 (fit-in _ _ c.in-Some.ensures.0).few

pub unwrap-requires : goal.unwrap-requires
unwrap-requires c = c.as_mut_array.ensures.variant.1 (fit-in _ _ c.in-Some.ensures.0).long.held

pub unwrap-requires-2 : goal.unwrap-requires-2
unwrap-requires-2 c = c.as_mut_array-2.ensures.variant.1 (fit-in _ _ c.in-Some.ensures.0).long.kinds

pub unwrap-requires-3 : goal.unwrap-requires-3
unwrap-requires-3 c = c.as_mut_array-3.ensures.variant.1 (fit-in _ _ c.in-Some.ensures.0).long.units

pub run_events-requires : goal.run_events-requires
run_events-requires c =
    let found = fit-in _ _ c.in-Some.ensures.0 in
    let calendar = rw c.unwrap-calendar.ensures at c.of.ensures.value in
    let held = rw c.unwrap.ensures at c.as_mut_array.ensures.cases in
    let kinds = rw c.unwrap-2.ensures at c.as_mut_array-2.ensures.cases in
    let units = rw c.unwrap-3.ensures at c.as_mut_array-3.ensures.cases in
    (record { few = rw calendar found.few; fits = rw (calendar, held.same, kinds.same, units.same) found.fits }, lines_fit _ _ c.in_ok-lengths_refusal.ensures)

pub returns : goal.returns
returns c =
    let found = fit-in _ _ c.in-Some.ensures.0 in
    let calendar = rw c.unwrap-calendar.ensures at c.of.ensures.value in
    let held = rw c.unwrap.ensures at c.as_mut_array.ensures.cases in
    let kinds = rw c.unwrap-2.ensures at c.as_mut_array-2.ensures.cases in
    let units = rw c.unwrap-3.ensures at c.as_mut_array-3.ensures.cases in
    let done = rw (calendar, held.same, kinds.same, units.same) at c.run_events.ensures in
    let goes = goes_on _ _ _ _ _ (not-unfit _ _ _ found.fits found.few) c.in_ok-lengths_refusal.ensures in
    (run-parts _ _ _ _ (ran-through _ _ _ _ _ done.0) done.1 done.2 ∙ sym (by-run _ _ _ _ found.whole ∙ goes), λ z. absurd (false≢true z))
