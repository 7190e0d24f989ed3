use mathlib.Core.Path.{refl, sym, ◌∙◌}
use native.Mathlib.Omega.{arith}
use Rattle.ledger.proofs.LentLaws.{step-parts, fit-in, refused-step, by-step}
use Rattle.ledger.proofs.WholeLaws.{refused-keeps-all}
use Rattle.ledger.proofs.lent.apply.Goals as goal

pub returns-in_default : goal.returns-in_default
returns-in_default c =
    rw c.refused.ensures (sym (refused-step _ _ (rw c.in_default.is at c.fitness_in-fitness.ensures) _), λ z. refl)

pub unwrap-calendar-requires : goal.unwrap-calendar-requires
unwrap-calendar-requires c = c.of.ensures.variant.1 (fit-in _ _ c.in-Some.ensures.0).few

pub unwrap-requires : goal.unwrap-requires
unwrap-requires c = c.as_mut_array.ensures.variant.1 (fit-in _ _ c.in-Some.ensures.0).long.held

pub unwrap-requires-2 : goal.unwrap-requires-2
unwrap-requires-2 c = c.as_mut_array-2.ensures.variant.1 (fit-in _ _ c.in-Some.ensures.0).long.kinds

pub unwrap-requires-3 : goal.unwrap-requires-3
unwrap-requires-3 c = c.as_mut_array-3.ensures.variant.1 (fit-in _ _ c.in-Some.ensures.0).long.units

pub entry_on-requires : goal.entry_on-requires
entry_on-requires c =
    let found = fit-in _ _ c.in-Some.ensures.0 in
    let calendar = rw c.unwrap-calendar.ensures at c.of.ensures.value in
    let held = rw c.unwrap.ensures at c.as_mut_array.ensures.cases in
    let kinds = rw c.unwrap-2.ensures at c.as_mut_array-2.ensures.cases in
    let units = rw c.unwrap-3.ensures at c.as_mut_array-3.ensures.cases in
    record { book = record { few = rw calendar found.few; fits = rw (calendar, held.same, kinds.same, units.same) found.fits }; sheets = c.in-Some.ensures.1; value = tt }

pub returns : goal.returns
returns c =
    let found = fit-in _ _ c.in-Some.ensures.0 in
    let calendar = rw c.unwrap-calendar.ensures at c.of.ensures.value in
    let held = rw c.unwrap.ensures at c.as_mut_array.ensures.cases in
    let kinds = rw c.unwrap-2.ensures at c.as_mut_array-2.ensures.cases in
    let units = rw c.unwrap-3.ensures at c.as_mut_array-3.ensures.cases in
    let done = rw (calendar, held.same, kinds.same, units.same) at c.entry_on.ensures in
    let left = step-parts _ _ _ done.0 done.1 in (
      left ∙ sym (by-step _ _ found.whole _),
      refused-keeps-all _ _ found.long (omega (arith, found.long.held)) c.entry_on.auto.table (λ k. (c.slice_known-1.given k).fits) (λ k. (c.type_inv.held k).fits)
          (λ k. (c.slice_known-4-1.given k).fits) (λ k. (c.type_inv.table k).fits) _ _ left,
    )
