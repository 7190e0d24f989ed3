-- How long a journal and its listing can be: for callers of write_listing.
-- Assumes nothing.
use Rattle.std.specs.Prelude.{◌≡◌, ℕ, zero, suc, ◌*◌, ◌<◌, ◌≤◌, Bool, true, false, cond, eqb, leb, List, ◌∷◌, length, take, drop, Result, Ok, Err}
use mathlib.Core.Path.{refl, sym, ap, ◌∙◌}
use mathlib.Core.Option.{Option, none, some}
use native.Mathlib.Numerals.{add-one}
use native.Mathlib.Omega.{arith}
use borrow.Author.Tests.{le-ltb, leb-true, leb-false}
use lib.Seq.{take_all, take_at, length-take-le}
use Rattle.money.specs.declared.refusal.Refusal.{Refusal}
use Rattle.money.specs.Causes.{first_of}
use Rattle.money.proofs.Refusals.{not-0}
use Rattle.rules.specs.Listing.{listing_of}
use Rattle.journal.specs.Sections.{event_count, calendar_of, events_of, journal_causes}
use Rattle.journal.specs.Text.{Line, decimal, spaced, signed, line_from, line_text}
use Rattle.journal.specs.Listing.{lines_text, refused_line, listing_by, listing_text, Written, text_causes, answer_of, written_of, text_after}
use Rattle.journal.specs.Limits.{journal_bytes, line_bytes, listing_bytes}
use Rattle.journal.proofs.TextLaws.{length-decimal, length_spaced, length_line}
use Rattle.journal.proofs.LineLaws.{no_lines, length_next}
use Rattle.journal.proofs.SectionLaws.{journal-within}

length-signed : (negative size : ℕ) → length (signed negative size) ≤ 22
unfolding signed spaced
length-signed negative size = go (eqb negative 0)
  where
    go : (b : Bool) → length (cond b (32 ∷ decimal size) (32 ∷ 45 ∷ decimal size)) ≤ 22
    go true = omega (arith, length-decimal size)
    go false = omega (arith, length-decimal size)

line-high : (place : ℕ) (line : Line) → length (line_text place line) ≤ line_bytes
line-high place line =
    omega (
      arith,
      length_line place line,
      length_spaced line.answer,
      length_spaced line.outstanding.0,
      length_spaced line.own.0,
      length_spaced line.client.0,
      length_spaced line.guarantee.0,
      length-signed line.negative line.size.0,
      length-decimal place,
      length-decimal line.answer,
      length-decimal line.outstanding.0,
      length-decimal line.own.0,
      length-decimal line.client.0,
      length-decimal line.guarantee.0,
    )

lines-high : (count : ℕ) (numbers : List ℕ) → length (lines_text count numbers) ≤ line_bytes * count
lines-high zero numbers = omega (arith, ap length (no_lines numbers))
lines-high (suc count) numbers =
    let line = line_from (drop (count * 7) numbers) in
    omega (arith, rw (add-one count) at (length_next numbers count line refl), line-high (suc count) line, lines-high count numbers)

-- no bytes have a listing that is longer
pub listing-high : (bytes : List ℕ) → length (listing_text bytes) ≤ listing_bytes
unfolding listing_text listing_by refused_line
listing-high bytes = go (first_of (journal_causes bytes)) refl
  where
    go : (o : Option ℕ) → first_of (journal_causes bytes) ≡ o → length (listing_by o bytes) ≤ listing_bytes
    go none e = omega (arith, lines-high (event_count bytes) (listing_of (calendar_of bytes) (events_of bytes)), (journal-within bytes e).1)
    go (some number) e = omega arith

-- bytes that are too many for a journal are none
too_long : (bytes : List ℕ) → journal_bytes < length bytes → listing_text bytes ≡ refused_line
unfolding listing_text listing_by
too_long bytes h = go (first_of (journal_causes bytes)) refl
  where
    go : (o : Option ℕ) → first_of (journal_causes bytes) ≡ o → listing_by o bytes ≡ refused_line
    go none e =
        let within = journal-within bytes e in
        absurd (omega (arith, h, within.0, within.1, within.2))
    go (some number) e = refl

-- an input may be cut anywhere behind the longest journal: a longer one is none, cut or not
pub cut-listing : (room : ℕ) (bytes : List ℕ) → journal_bytes < room → listing_text (take room bytes) ≡ listing_text bytes
cut-listing room bytes more = go (leb (length bytes) room) refl
  where
    go : (b : Bool) → leb (length bytes) room ≡ b → listing_text (take room bytes) ≡ listing_text bytes
    go true m = ap listing_text (take_all room bytes (leb-true _ _ m))
    go false m =
        let long : room < length bytes = leb-false _ _ m in
        let cut : length (take room bytes) ≡ room = length-take-le room bytes (omega (arith, long)) in
        too_long (take room bytes) (omega (arith, cut, more)) ∙ sym (too_long bytes (omega (arith, long, more)))

length-told : (told : Result ℕ Refusal) (count : ℕ) → written_of told ≡ record { number = 0; length = count } → told ≡ Ok count
length-told (Ok told) count e = ap (λ (w : Written). Ok w.length) e
length-told (Err refusal) count e = absurd (not-0 refusal (ap (λ (w : Written). w.number) e))

listing-given : (bytes text : List ℕ) → listing_bytes ≤ length text → answer_of (listing_text bytes) text ≡ record { number = 0; length = length (listing_text bytes) }
unfolding answer_of text_causes first_of
listing-given bytes text h = rw (le-ltb (length text) (length (listing_text bytes)) (omega (arith, listing-high bytes))) refl

-- where there is room for the longest listing, every listing is written
pub room-for-all : (bytes text : List ℕ) (told : Result ℕ Refusal) → listing_bytes ≤ length text → written_of told ≡ answer_of (listing_text bytes) text
    → (told ≡ Ok (length (listing_text bytes))) × (take (length (listing_text bytes)) (text_after (listing_text bytes) text) ≡ listing_text bytes)
unfolding text_after text_causes first_of
room-for-all bytes text told h e = (
  length-told told _ (e ∙ listing-given bytes text h),
  rw (le-ltb (length text) (length (listing_text bytes)) (omega (arith, listing-high bytes)))
      (take_at (listing_text bytes) _ (length (listing_text bytes)) refl),
)
