-- Which bytes are a journal, its calendar and its events' bytes. (01, The journal)
-- Assumes nothing.
use Rattle.std.specs.Prelude.{◌≡◌, ℕ, zero, suc, ◌+◌, ◌-◌, ◌*◌, List, [], ◌∷◌, ◌++◌, length, drop, nat_lt, Option, Some, None}
use Rattle.std.proofs.Math.Option.{Option as Maybe, none, some}
use Rattle.money.specs.Limits.{calendar_limit}
use Rattle.money.specs.Causes.{Cause, ◌⇒◌, first_of, number_of}
use Rattle.money.specs.Days.{Calendar}
use Rattle.rules.specs.Entry.{event_bytes, number_at}
use Rattle.rules.specs.Listing.{event_limit}
pub use Rattle.journal.specs.declared.sections.Counts.{Counts}

-- "each after its count, all little-endian: a 32-bit count"
abbrev pub count_bytes : ℕ
count_bytes = 4

abbrev pub count_at : (at : ℕ) → List ℕ → ℕ
count_at at bytes = number_at at count_bytes bytes

-- "words of 32 bits" (01, Days)
abbrev pub word_bytes : ℕ
word_bytes = 4

-- where a section that starts at a place ends: its count, then as many pieces of its width
abbrev pub section_end : (width at : ℕ) → List ℕ → ℕ
section_end width at bytes = at + count_bytes + count_at at bytes * width

-- "malformed is only a count past its limit, an early end": of the section at a place
unfoldable pub section_causes : (limit width at : ℕ) → List ℕ → List Cause
section_causes limit width at bytes =
    (nat_lt (length bytes) (at + count_bytes) ⇒ 18)
    ∷ (nat_lt limit (count_at at bytes) ⇒ 18)
    ∷ (nat_lt (length bytes) (section_end width at bytes) ⇒ 18)
    ∷ []

-- "Sections in fixed order": the calendar from the first byte, the events after it
abbrev pub word_count : List ℕ → ℕ
word_count bytes = count_at 0 bytes

abbrev pub events_at : List ℕ → ℕ
events_at bytes = section_end word_bytes 0 bytes

abbrev pub event_count : List ℕ → ℕ
event_count bytes = count_at (events_at bytes) bytes

-- "then the end": bytes left over are malformed too
unfoldable pub journal_causes : List ℕ → List Cause
journal_causes bytes =
    section_causes calendar_limit word_bytes 0 bytes
    ++ section_causes event_limit event_bytes (events_at bytes) bytes
    ++ (nat_lt (section_end event_bytes (events_at bytes) bytes) (length bytes) ⇒ 18) ∷ []

-- "calendar words": the first numbers of four bytes each
unfoldable pub words_of : (count : ℕ) → List ℕ → Calendar
words_of zero bytes = []
words_of (suc count) bytes = words_of count bytes ++ number_at (count * word_bytes) word_bytes bytes ∷ []

unfoldable pub calendar_of : List ℕ → Calendar
calendar_of bytes = words_of (word_count bytes) (drop count_bytes bytes)

-- "and events of 40 bytes; then the end": all that stands after their count
unfoldable pub events_of : List ℕ → List ℕ
events_of bytes = drop (events_at bytes + count_bytes) bytes

-- what reading a section answers: its count, or none where it is malformed
unfoldable pub section_by : Maybe ℕ → (count : ℕ) → Option ℕ
section_by none count = Some count
section_by (some number) count = None

abbrev pub section_at : (limit width at : ℕ) → List ℕ → Option ℕ
section_at limit width at bytes = section_by (first_of (section_causes limit width at bytes)) (count_at at bytes)

-- 18: "journal malformed"
abbrev pub section_number : Option ℕ → ℕ
section_number (Some count) = 0
section_number None = 18

-- what is promised of a section that is read: which it is, and its number
abbrev pub IsSectionAt : (limit width at : ℕ) → List ℕ → Option ℕ → Type 0
IsSectionAt limit width at bytes section =
    (section ≡ section_at limit width at bytes) × (section_number section ≡ number_of (first_of (section_causes limit width at bytes)))

-- where a reader stands that has passed a section: at its end, and where it was if the section is malformed
unfoldable pub past_by : Maybe ℕ → (at end : ℕ) → ℕ
past_by none at end = end
past_by (some number) at end = at

abbrev pub past_section : (limit width at : ℕ) → List ℕ → ℕ
past_section limit width at bytes = past_by (first_of (section_causes limit width at bytes)) at (section_end width at bytes)

-- how many bytes are left from a place on, none past the end
abbrev pub left_from : (at : ℕ) → List ℕ → ℕ
left_from at bytes = length bytes - at

-- what reading both answers: their counts, or none where the journal is malformed
unfoldable pub sections_by : Maybe ℕ → (words events : ℕ) → Option Counts
sections_by none words events = Some (record { words = words; events = events })
sections_by (some number) words events = None

abbrev pub sections_of : List ℕ → Option Counts
sections_of bytes = sections_by (first_of (journal_causes bytes)) (word_count bytes) (event_count bytes)

abbrev pub sections_number : Option Counts → ℕ
sections_number (Some counts) = 0
sections_number None = 18

-- what is promised of both
abbrev pub AreSectionsOf : List ℕ → Option Counts → Type 0
AreSectionsOf bytes sections = (sections ≡ sections_of bytes) × (sections_number sections ≡ number_of (first_of (journal_causes bytes)))
