use mathlib.Core.Path.{sym, ◌∙◌}
use native.Mathlib.Omega.{arith}
use lib.Seq.{length-take-le}
use Rattle.journal.proofs.SectionLaws.{journal, no-journal}
use Rattle.journal.proofs.ListingLaws.{refused-text, words-taken, length-calendar, events-taken, length-events, journal-text}
use Rattle.journal.proofs.listing.write_listing.Goals as goal

pub returns-in_default : goal.returns-in_default
returns-in_default c =
    rw (refused-text _ (no-journal _ (sym c.sections_of.ensures.0 ∙ c.in_default.is)).first) at c.write_refused.ensures

pub slice_bounds-write_run-end : goal.slice_bounds-write_run-end
slice_bounds-write_run-end c =
    let j = journal _ _ (sym c.sections_of.ensures.0 ∙ c.in-Some.is) in
    sym (length-take-le _ _ (omega (arith, j.words-high, c.read_words.auto.words)))

pub write_run-requires : goal.write_run-requires
write_run-requires c =
    let j = journal _ _ (sym c.sections_of.ensures.0 ∙ c.in-Some.is) in
    rw (words-taken _ _ _ j _ _ c.read_words.ensures, events-taken _ _ _ j)
    (length-calendar _ _ _ j, omega (arith, length-events _ _ _ j), omega (arith, length-events _ _ _ j, j.events-high))

pub returns : goal.returns
returns c =
    let j = journal _ _ (sym c.sections_of.ensures.0 ∙ c.in-Some.is) in
    rw (words-taken _ _ _ j _ _ c.read_words.ensures, events-taken _ _ _ j, journal-text _ _ _ j) at c.write_run.ensures
