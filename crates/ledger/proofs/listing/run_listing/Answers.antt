use Rattle.std.specs.Prelude.{◌<◌, ◌≤◌, length}
use mathlib.Core.Path.{refl, sym, ap, ◌∙◌}
use mathlib.Core.Bool.{false≢true}
use native.Mathlib.Omega.{arith}
use Rattle.std.proofs.lemmas.Result.{err_from_is_err_and}
use Rattle.money.specs.Causes.{refusal_of}
use Rattle.ledger.proofs.RunLaws.{lines_fit}
use Rattle.ledger.proofs.ListingLaws.{words-past, words-within, journal-starts-empty, fresh-in-rows, fresh-fits, fresh-listing}
use Rattle.ledger.proofs.listing.run_listing.Goals as goal

pub returns-in_err-calendar : goal.returns-in_err-calendar
returns-in_err-calendar c =
    let told = err_from_is_err_and c.from_residual.result c.from_residual.ensures.1 in
    let none = c.in_err-calendar.ensures in
    let too-long : length c.args.calendar.now ≤ 1200 → ⊥ = λ few. false≢true (none.variant ∙ c.of.ensures.variant.1 few) in
    let past : 1200 < length c.args.calendar.now = omega (arith, too-long) in
    rw (told.1, told.2, words-past _ _ _ past) (ap refusal_of (rw none.ok_part at none.value), refl)

pub returns-in_err-lengths_refusal : goal.returns-in_err-lengths_refusal
returns-in_err-lengths_refusal c =
    let told = err_from_is_err_and c.from_residual-in_err-lengths_refusal.result c.from_residual-in_err-lengths_refusal.ensures.1 in
    let few = c.of.ensures.variant.0 (sym c.in_ok-calendar.ensures.variant) in
    rw (told.1, told.2, words-within _ _ _ few, ← c.in_err-lengths_refusal.ensures) (refl, refl)

pub run_events-requires : goal.run_events-requires
run_events-requires c =
    let few = c.of.ensures.variant.0 (sym c.in_ok-calendar.ensures.variant) in
    let calendar = rw c.in_ok-calendar.ensures.ok_part at c.of.ensures.value in
    (record { few = rw calendar few; fits = rw (c.fresh_scalars.ensures, fresh-in-rows, journal-starts-empty) (fresh-fits _) }, lines_fit _ _ c.in_ok-lengths_refusal.ensures)

pub returns : goal.returns
returns c =
    let few = c.of.ensures.variant.0 (sym c.in_ok-calendar.ensures.variant) in
    let calendar = rw c.in_ok-calendar.ensures.ok_part at c.of.ensures.value in
    let listed = rw (calendar, c.fresh_scalars.ensures, fresh-in-rows, journal-starts-empty, fresh-listing c.args.calendar.now c.args.events.now c.args.lines.now) at c.run_events.ensures.2 in
    rw (words-within _ _ _ few, ← c.in_ok-lengths_refusal.ensures) (refl, listed)
