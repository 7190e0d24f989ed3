-- A journal's calendar and events as its bytes hold them, and its listing: for write_listing.
-- Assumes nothing.
use Rattle.std.specs.Prelude.{◌≡◌, ℕ, ◌+◌, ◌-◌, ◌*◌, ◌/◌, ◌≤◌, List, ◌++◌, length, take, drop}
use mathlib.Core.Path.{ap, ◌∙◌}
use mathlib.Core.Option.{some}
use native.Mathlib.Omega.{arith}
use lib.ListN.{length-drop}
use lib.Seq.{take_all}
use Rattle.money.specs.Causes.{first_of}
use Rattle.rules.specs.Listing.{listing_of}
use Rattle.journal.specs.Sections.{word_count, event_count, events_at, words_of, calendar_of, events_of, journal_causes}
use Rattle.journal.specs.Listing.{lines_text, refused_line, listing_by, listing_text}
use Rattle.journal.proofs.SectionLaws.{Journal}
use Rattle.journal.proofs.WordLaws.{length-words, words-in-front}

module _ (bytes : List ℕ) where
  pub refused-text : {number : ℕ} → first_of (journal_causes bytes) ≡ some number → refused_line ≡ listing_text bytes
  unfolding listing_text listing_by
  refused-text e = rw e

  module _ (words events : ℕ) (j : Journal bytes words events) where
    -- the words that were read are the calendar
    pub words-taken : (lent rest : List ℕ) → lent ≡ words_of words (drop 4 bytes) ++ rest → take words lent ≡ calendar_of bytes
    unfolding calendar_of
    words-taken lent rest e = rw (e, words-in-front words (drop 4 bytes) rest, j.words-counted)

    pub length-calendar : length (calendar_of bytes) ≤ 1200
    unfolding calendar_of
    length-calendar = omega (arith, length-words (word_count bytes) (drop 4 bytes), j.words-counted, j.words-high)

    abbrev from : ℕ
    from = 4 + words * 4 + 4

    all-taken : take (length bytes - from) (drop from bytes) ≡ drop from bytes
    all-taken = take_all (length bytes - from) (drop from bytes) (omega (arith, length-drop from bytes))

    events-start : drop from bytes ≡ events_of bytes
    unfolding events_of
    events-start = let start : from ≡ events_at bytes + 4 = omega (arith, j.words-counted) in ap (λ n. drop n bytes) start

    -- what stands after the events' count are the events
    pub events-taken : take (length bytes - (4 + words * 4 + 4)) (drop (4 + words * 4 + 4) bytes) ≡ events_of bytes
    events-taken = all-taken ∙ events-start

    pub length-events : length (events_of bytes) ≡ events * 40
    length-events = omega (arith, ap length events-start, length-drop from bytes, j.full)

    pub journal-text : lines_text (length (events_of bytes) / 40) (listing_of (calendar_of bytes) (events_of bytes)) ≡ listing_text bytes
    unfolding listing_text listing_by
    journal-text =
        let counted : length (events_of bytes) / 40 ≡ event_count bytes = omega (arith, length-events, j.events-counted) in
        rw (counted, j.none-applies)
