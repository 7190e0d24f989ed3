-- The bytes that a journal's listing is, and the call that writes them. (01, The journal)
-- Assumes nothing.
use Rattle.std.specs.Prelude.{ℕ, zero, suc, ◌+◌, ◌*◌, List, [], ◌∷◌, ◌++◌, length, drop, nat_lt, Result, Ok, Err}
use Rattle.std.proofs.Math.Option.{Option, none, some}
use Rattle.money.specs.declared.refusal.Refusal.{Refusal}
use Rattle.money.specs.Causes.{Cause, ◌⇒◌, first_of, number_of, result_of, refusal_number}
use Rattle.rules.specs.Listing.{line_numbers, listing_of, written_by}
use Rattle.journal.specs.Sections.{journal_causes, calendar_of, events_of, event_count}
use Rattle.journal.specs.Text.{line_from, line_text}
pub use Rattle.journal.specs.declared.listing.Written.{Written}

-- "prints per event": the lines of the first events from all events' numbers, the place of each "from 1"
unfoldable pub lines_text : (count : ℕ) → List ℕ → List ℕ
lines_text zero numbers = []
lines_text (suc count) numbers = lines_text count numbers ++ line_text (count + 1) (line_from (drop (count * line_numbers) numbers))

-- "the line `journal refused`"
unfoldable pub refused_line : List ℕ
refused_line = 106 ∷ 111 ∷ 117 ∷ 114 ∷ 110 ∷ 97 ∷ 108 ∷ 32 ∷ 114 ∷ 101 ∷ 102 ∷ 117 ∷ 115 ∷ 101 ∷ 100 ∷ 10 ∷ []

-- "no event done" where the journal is malformed; else its events "on a fresh book with capacity 1,024"
unfoldable pub listing_by : Option ℕ → List ℕ → List ℕ
listing_by none bytes = lines_text (event_count bytes) (listing_of (calendar_of bytes) (events_of bytes))
listing_by (some number) bytes = refused_line

-- the listing of any bytes
unfoldable pub listing_text : List ℕ → List ℕ
listing_text bytes = listing_by (first_of (journal_causes bytes)) bytes

-- 14, "a limit would be passed": a lent text that is too short for the listing
unfoldable pub text_causes : (listing text : List ℕ) → List Cause
text_causes listing text = (nat_lt (length text) (length listing) ⇒ 14) ∷ []

-- the number, and how many bytes were written
unfoldable pub answer_of : (listing text : List ℕ) → Written
answer_of listing text = record {
  number = number_of (first_of (text_causes listing text));
  length = result_of (first_of (text_causes listing text)) (length listing);
}

-- a length that was answered, or a refusal, as C has it
abbrev pub written_of : Result ℕ Refusal → Written
written_of (Ok count) = record { number = 0; length = count }
written_of (Err refusal) = record { number = refusal_number refusal; length = 0 }

-- the lent text afterwards: the listing in front, the rest as it was; refused, all as it was
unfoldable pub text_after : (listing text : List ℕ) → List ℕ
text_after listing text = written_by (first_of (text_causes listing text)) listing text
