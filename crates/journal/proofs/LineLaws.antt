-- The lines of a listing, one more at a time, and the text that holds them: for listing.rt.
-- Assumes nothing.
use Rattle.std.specs.Prelude.{◌≡◌, ℕ, zero, suc, ◌+◌, ◌-◌, ◌*◌, ◌/◌, ◌%◌, ◌<◌, ◌≤◌, List, [], ◌∷◌, ◌++◌, length, get_or, take, drop, Ok, Err}
use mathlib.Core.Path.{refl, sym, ap, ◌∙◌}
use mathlib.Core.Option.{none}
use native.Mathlib.Nat.{add-zero, zero-add, add-suc, le_refl}
use native.Mathlib.Numerals.{add-one}
use native.Mathlib.Omega.{arith}
use borrow.Author.Tests.{lt-ltb, le-ltb, eq-eqb}
use lib.Dec.{lit<}
use lib.ListN.{length-append, get_or-append}
use lib.Seq.{get_or-drop, get_or-take}
use Rattle.money.specs.declared.refusal.Refusal.TheVariants.{PastLimit}
use Rattle.money.specs.Causes.{first_of}
use Rattle.money.specs.Days.{Calendar}
use Rattle.money.proofs.Refusals.{hit, skip, clear}
use Rattle.rules.specs.Book.{fresh_book}
use Rattle.rules.specs.declared.book.Book.{Book}
use Rattle.rules.specs.declared.trade.Trade.{Trade}
use Rattle.rules.specs.Entry.{Entry}
use Rattle.rules.specs.Step.{step}
use Rattle.rules.specs.Run.{run}
use Rattle.rules.specs.Listing.{journal_table, entries_of, line_of, lines_of, listing_of, length_causes, listing_causes, written_by}
use Rattle.journal.specs.Text.{Line, line_from, line_text}
use Rattle.journal.specs.Buffer.{placed}
use Rattle.journal.specs.Listing.{lines_text, text_causes, answer_of, written_of, text_after}

-- ---- a line's numbers, by place

-- the line's own part tells it
pub row_read : (numbers : List ℕ) (n : ℕ) → 7 ≤ n → line_from (take n numbers) ≡ line_from numbers
unfolding line_from
row_read numbers n long =
    let read : (i : ℕ) → i < 7 → get_or (take n numbers) i 0 ≡ get_or numbers i 0 = (λ i h. get_or-take n numbers i 0 (omega arith)) in
    rw (read 0 (lit< tt), read 1 (lit< tt), read 2 (lit< tt), read 3 (lit< tt), read 4 (lit< tt), read 5 (lit< tt), read 6 (lit< tt)) refl

-- ---- one line more

pub next-lines : (numbers : List ℕ) (k : ℕ) (line : Line) → line ≡ line_from (drop (k * 7) numbers) → lines_text (k + 1) numbers ≡ lines_text k numbers ++ line_text (k + 1) line
unfolding lines_text
next-lines numbers k line e =
    rw (add-one k, e) (ap (λ (place : ℕ). lines_text k numbers ++ line_text place (line_from (drop (k * 7) numbers))) (omega arith))

pub length_next : (numbers : List ℕ) (k : ℕ) (line : Line) → line ≡ line_from (drop (k * 7) numbers) → length (lines_text (k + 1) numbers) ≡ length (lines_text k numbers) + length (line_text (k + 1) line)
length_next numbers k line e = ap length (next-lines numbers k line e) ∙ length-append (lines_text k numbers) (line_text (k + 1) line)

pub no_lines : (numbers : List ℕ) → lines_text 0 numbers ≡ []
unfolding lines_text
no_lines numbers = refl

grows : (numbers : List ℕ) (k more : ℕ) → length (lines_text k numbers) ≤ length (lines_text (k + more) numbers)
grows numbers k zero = rw (add-zero k) (le_refl _)
grows numbers k (suc more) =
    let line = line_from (drop ((k + more) * 7) numbers) in
    rw (add-suc k more) (omega (arith, rw (add-one (k + more)) at (length_next numbers (k + more) line refl), grows numbers k more))

-- the first lines are no longer than all
within : (numbers : List ℕ) (k count : ℕ) → k ≤ count → length (lines_text k numbers) ≤ length (lines_text count numbers)
within numbers k count h = let e : k + (count - k) ≡ count = omega arith in rw e at (grows numbers k (count - k))

-- where all lines fit, so does the one after the first k
pub line-fits : (numbers text : List ℕ) (k count : ℕ) (line : Line) → line ≡ line_from (drop (k * 7) numbers) → k < count
    → length (lines_text count numbers) ≤ length text → 0 + length (lines_text k numbers) + length (line_text (k + 1) line) ≤ length text
line-fits numbers text k count line e more fits = omega (arith, length_next numbers k line e, within numbers (k + 1) count (omega arith), fits)

-- numbers behind the lines' own are not read
same_line : (count : ℕ) (numbers rest : List ℕ) → count * 7 + 7 ≤ length numbers → line_from (drop (count * 7) (numbers ++ rest)) ≡ line_from (drop (count * 7) numbers)
unfolding line_from
same_line count numbers rest h =
    let read : (i : ℕ) → i < 7 → get_or (drop (count * 7) (numbers ++ rest)) i 0 ≡ get_or (drop (count * 7) numbers) i 0 =
    λ i l. get_or-drop (count * 7) (numbers ++ rest) i 0 ∙ get_or-append numbers rest 0 (count * 7 + i) (omega arith) ∙ sym (get_or-drop (count * 7) numbers i 0) in
    rw (read 0 (lit< tt), read 1 (lit< tt), read 2 (lit< tt), read 3 (lit< tt), read 4 (lit< tt), read 5 (lit< tt), read 6 (lit< tt)) refl

pub lines-in-front : (count : ℕ) (numbers rest : List ℕ) → count * 7 ≤ length numbers → lines_text count (numbers ++ rest) ≡ lines_text count numbers
unfolding lines_text
lines-in-front zero numbers rest h = refl
lines-in-front (suc count) numbers rest h = rw (lines-in-front count numbers rest (omega arith), same_line count numbers rest (omega arith))

-- ---- the lent text afterwards

pub too_short : (listing text : List ℕ) → length text < length listing → (written_of (Err PastLimit) ≡ answer_of listing text) × (text ≡ text_after listing text)
unfolding answer_of text_after text_causes
too_short listing text h = rw (hit 14 [] (lt-ltb _ _ h)) (refl, refl)

pub in-front : (listing text text' : List ℕ) (end : ℕ) → length listing ≤ length text → end ≡ length listing → text' ≡ placed text 0 listing
    → (written_of (Ok end) ≡ answer_of listing text) × (text' ≡ text_after listing text)
unfolding answer_of text_after text_causes placed
in-front listing text text' end h e p = rw (skip 14 [] (le-ltb _ _ h) clear, e) (refl, p ∙ rw (zero-add (length listing)) refl)

-- ---- the book's run

pub run-clear : (words bytes room : ℕ) → words ≤ 1200 → bytes % 40 ≡ 0 → bytes / 40 ≤ 1500 → 7 * (bytes / 40) ≤ room → first_of (listing_causes words bytes room) ≡ none
unfolding listing_causes length_causes
run-clear words bytes room w e c r =
    skip 1 _ (le-ltb _ _ w) (skip 14 _ (le-ltb _ _ r) (skip 18 _ (rw (eq-eqb _ _ e)) (skip 18 _ (le-ltb _ _ c) clear)))

length-entries : (count : ℕ) (bytes : List ℕ) → length (entries_of count bytes) ≡ count
unfolding entries_of
length-entries zero bytes = refl
length-entries (suc count) bytes = ap suc (length-entries count (drop 40 bytes))

length-lines : (calendar : Calendar) (book : Book) (table : List Trade) (entries : List Entry) → length (lines_of (run calendar book table entries)) ≡ 7 * length entries
unfolding run lines_of line_of
length-lines calendar book table [] = refl
length-lines calendar book table (entry ∷ entries) =
    omega (arith, length-lines calendar (step calendar book table entry).book (step calendar book table entry).table entries)

pub length-listing : (calendar : Calendar) (bytes : List ℕ) → length (listing_of calendar bytes) ≡ 7 * (length bytes / 40)
unfolding listing_of
length-listing calendar bytes =
    length-lines calendar fresh_book journal_table (entries_of (length bytes / 40) bytes) ∙ ap (λ n. 7 * n) (length-entries (length bytes / 40) bytes)

-- the lines of what the run wrote are the listing's
pub run-lines : (calendar : Calendar) (bytes lines lines' : List ℕ) → first_of (listing_causes (length calendar) (length bytes) (length lines)) ≡ none
    → lines' ≡ written_by (first_of (listing_causes (length calendar) (length bytes) (length lines))) (listing_of calendar bytes) lines
    → lines_text (length bytes / 40) lines' ≡ lines_text (length bytes / 40) (listing_of calendar bytes)
run-lines calendar bytes lines lines' c e =
    let front : lines' ≡ listing_of calendar bytes ++ drop (length (listing_of calendar bytes)) lines = e ∙ rw c refl in
    rw front (lines-in-front (length bytes / 40) (listing_of calendar bytes) _ (omega (arith, length-listing calendar bytes)))
