-- Document 01's journal, byte by byte, and journals that are none: computed.
-- Assumes nothing.
use Rattle.std.specs.Prelude.{◌≡◌, ℕ, zero, suc, ◌/◌, ◌%◌, List, [], ◌∷◌, ◌++◌, map, take, replicate}
use mathlib.Core.Path.{refl}
use Rattle.rules.specs.Run.{run}
use Rattle.money.specs.Units.{fen, sheets}
use Rattle.money.specs.Causes.{first_of}
use Rattle.rules.specs.Listing.{listing_of, entries_of, line_of, lines_of}
use Rattle.rules.specs.Entry.{decoded, entry_of, unless, little_endian}
use Rattle.rules.proofs.Opened.{every_rule}
use Rattle.journal.specs.Sections.{section_causes, journal_causes, words_of, calendar_of, events_of}
use Rattle.journal.specs.Text.{places_to, decimal, spaced, signed, line_from, line_text}
use Rattle.journal.specs.Listing.{lines_text, refused_line, listing_by, listing_text}

-- a number as bytes, the least first
abbrev pub little : (width number : ℕ) → List ℕ
little zero number = []
little (suc width) number = number % 256 ∷ little width (number / 256)

-- an event's 40 bytes: code, kind or account, amount, contract, price, fallback price, due day
abbrev pub event : (code kind amount contract price fallback due : ℕ) → List ℕ
event code kind amount contract price fallback due =
    code ∷ kind ∷ replicate 6 0 ++ little 8 amount ++ little 8 contract ++ little 4 price ++ little 4 fallback ++ little 4 due ++ replicate 4 0

abbrev pub other : (code kind amount : ℕ) → List ℕ
other code kind amount = event code kind amount 0 0 0 0

-- "size 1,000; in own 5,000,000; in client 3,000,000; rate of kind 0, 9,000; Open; pledge 200 of kind 0; Pay; Close; Open; initial 100, contract 7, price 3,650, fallback 1,000, due 4; Pay; Close; Open; initial 90, contract 8, same prices, due 6; Pay; Close"
abbrev pub events : List ℕ
events =
    other 4 0 1000
    ++ other 2 0 5000000
    ++ other 2 1 3000000
    ++ other 5 0 9000
    ++ other 1 0 0
    ++ other 6 0 200
    ++ other 11 0 0
    ++ other 12 0 0
    ++ other 1 0 0
    ++ event 9 0 100 7 3650 1000 4
    ++ other 11 0 0
    ++ other 12 0 0
    ++ other 1 0 0
    ++ event 9 0 90 8 3650 1000 6
    ++ other 11 0 0
    ++ other 12 0 0

-- "Calendar of one word, 206"
abbrev pub journal : List ℕ
journal = little 4 1 ++ little 4 206 ++ little 4 16 ++ events

abbrev pub line : (place answer headroom outstanding own client : ℕ) → List ℕ
line place answer headroom outstanding own client =
    line_text place (record { answer = answer; negative = 0; size = sheets headroom; outstanding = sheets outstanding; own = fen own; client = fen client; guarantee = fen 0 })

-- the listing that document 01 prints
abbrev pub printed : List ℕ
printed =
    line 1 0 0 0 0 0
    ++ line 2 0 0 0 5000000 0
    ++ line 3 0 0 0 5000000 3000000
    ++ line 4 0 0 0 5000000 3000000
    ++ line 5 0 0 0 5000000 3000000
    ++ line 6 0 0 0 5000000 3000000
    ++ line 7 0 0 0 5000000 3000000
    ++ line 8 0 180 0 5000000 3000000
    ++ line 9 0 180 0 5000000 3000000
    ++ line 10 0 80 100 5000000 3000000
    ++ line 11 0 80 100 5000000 3000000
    ++ line 12 0 80 100 5000000 3000000
    ++ line 13 0 80 100 5000000 3000000
    ++ line 14 12 80 100 5000000 3000000
    ++ line 15 0 80 100 6000000 2000000
    ++ line 16 0 80 100 6000000 2000000

pub journal-prints : listing_text journal ≡ printed
unfolding every_rule listing_of entries_of line_of lines_of decoded entry_of unless little_endian section_causes journal_causes words_of calendar_of events_of
    decimal places_to spaced signed line_from line_text lines_text listing_by listing_text refused_line
journal-prints = refl

-- "2 0 0 0 5000000 0 0" and, with a negative headroom, "3 0 -20 120 7 0 15", each with its line end
pub lines-are-text
    : (line 2 0 0 0 5000000 0 ≡ 50 ∷ 32 ∷ 48 ∷ 32 ∷ 48 ∷ 32 ∷ 48 ∷ 32 ∷ 53 ∷ 48 ∷ 48 ∷ 48 ∷ 48 ∷ 48 ∷ 48 ∷ 32 ∷ 48 ∷ 32 ∷ 48 ∷ 10 ∷ [])
    × (line_text 3 (record { answer = 0; negative = 1; size = sheets 20; outstanding = sheets 120; own = fen 7; client = fen 0; guarantee = fen 15 }) ≡ 51 ∷ 32 ∷ 48 ∷ 32 ∷ 45 ∷ 50 ∷ 48 ∷ 32 ∷ 49 ∷ 50 ∷ 48 ∷ 32 ∷ 55 ∷ 32 ∷ 48 ∷ 32 ∷ 49 ∷ 53 ∷ 10 ∷ [])
unfolding decimal places_to spaced signed line_text
lines-are-text = (refl, refl)

-- "malformed is only a count past its limit, an early end, or bytes left over": 1,201 words, 1,501 events, no byte, each last byte missing, one byte more
abbrev pub no-journals : List (List ℕ)
no-journals =
    (little 4 1201 ++ replicate 4804 0 ++ little 4 0)
    ∷ (little 4 0 ++ little 4 1501 ++ replicate 60040 0)
    ∷ []
    ∷ take 3 journal
    ∷ take 7 journal
    ∷ take 11 journal
    ∷ take 651 journal
    ∷ (journal ++ 0 ∷ [])
    ∷ []

pub no-journals-refused : map listing_text no-journals ≡ replicate 8 refused_line
unfolding first_of little_endian section_causes journal_causes listing_by listing_text
no-journals-refused = refl

-- a journal without words and events prints nothing
pub empty-prints-nothing : listing_text (replicate 8 0) ≡ []
unfolding first_of run little_endian section_causes journal_causes words_of calendar_of events_of listing_of entries_of lines_of lines_text listing_by listing_text
empty-prints-nothing = refl
