-- Numbers written as bytes one by one, lines compared number by number, and a listing that is not refused.
-- For the proofs of journal.rt. Assumes nothing.
use Rattle.std.specs.Prelude.{◌≡◌, ℕ, zero, suc, ◌+◌, ◌-◌, ◌*◌, ◌/◌, ◌%◌, ◌<◌, ◌≤◌, true, false, not, ltb, List, [], ◌∷◌, ◌++◌, length, get_or, take, drop, set}
use mathlib.Core.Path.{refl, sym, ap, ◌∙◌}
use mathlib.Core.List.{append_assoc}
use mathlib.Core.Option.{Option, none}
use native.Mathlib.Numerals.{add-one}
use native.Mathlib.Omega.{arith}
use mathlib.Core.Bool.{false≢true}
use Rattle.std.specs.Str.{bytes_eq}
use Rattle.std.proofs.lemmas.Grind.{same_number_lists}
use Rattle.std.proofs.lemmas.Slice.Eq.{bytes_eq-Decides}
use borrow.Author.Tests.{le-ltb, eq-eqb, eqb-true, ltb-true, ltb-false}
use lib.ListN.{length-append, length-drop, get_or-append}
use lib.Seq.{sets, length-sets, sets-eq, take_at, take_all, length-take-le, get_or-take, get_or-drop, get_or-append-add}
use Rattle.money.specs.Causes.{first_of}
use Rattle.money.specs.Days.{Calendar}
use Rattle.money.proofs.Refusals.{skip, clear}
use Rattle.rules.specs.declared.book.Book.{Book}
use Rattle.rules.specs.declared.trade.Trade.{Trade}
use Rattle.rules.specs.Entry.{Entry}
use Rattle.rules.specs.Book.{fresh_book}
use Rattle.rules.specs.Step.{step}
use Rattle.rules.specs.Run.{run}
use Rattle.rules.specs.Listing.{journal_table, entries_of, line_of, lines_of, listing_of, length_causes, listing_causes, written_by}
use Rattle.rules.proofs.FoldLaws.{by-test, all-at, all_of}
use Rattle.cases.specs.Journal.{digit_of, digits_from, digits, bytes_of, same_numbers, ends_with}

-- ---- stores in a row

-- one store more
pub one_more : (list new : List ℕ) (at k : ℕ) → k < length new → set (sets list at (take k new)) (at + k) (get_or new k 0) ≡ sets list at (take (suc k) new)
one_more list [] at k h = absurd (omega arith)
one_more list (x ∷ new) at zero h = let e : at + 0 ≡ at = omega arith in rw e refl
one_more list (x ∷ new) at (suc k) h =
    let e : at + suc k ≡ suc at + k = omega arith in
    rw e (one_more (set list at x) new (suc at) k (omega arith))

-- stores that follow each other
pub then-more : (list new more : List ℕ) (at : ℕ) → sets (sets list at new) (at + length new) more ≡ sets list at (new ++ more)
then-more list [] more at = let e : at + 0 ≡ at = omega arith in rw e refl
then-more list (x ∷ new) more at =
    let e : at + suc (length new) ≡ suc at + length new = omega arith in
    rw e (then-more (set list at x) new more (suc at))

-- a buffer into which some bytes have been written from a place on
pub record Written (bytes₀ : List ℕ) (at : ℕ) (new bytes : List ℕ) : Type 0 where
  pub long : length bytes ≡ length bytes₀
  pub told : bytes ≡ sets bytes₀ at new

pub written : (bytes₀ : List ℕ) (at : ℕ) (new : List ℕ) {bytes : List ℕ} → bytes ≡ sets bytes₀ at new → Written bytes₀ at new bytes
written bytes₀ at new e = record { long = ap length e ∙ length-sets bytes₀ at new; told = e }

-- ---- numbers as bytes

length_digits : (number place count : ℕ) → length (digits_from number place count) ≡ count
unfolding digits_from
length_digits number place zero = refl
length_digits number place (suc count) = ap suc (length_digits number (suc place) count)

digit_at : (number place count k : ℕ) → k < count → get_or (digits_from number place count) k 0 ≡ digit_of number (place + k)
unfolding digits_from
digit_at number place zero k h = absurd (omega arith)
digit_at number place (suc count) zero h = let e : place + 0 ≡ place = omega arith in rw e refl
digit_at number place (suc count) (suc k) h =
    let e : place + suc k ≡ suc place + k = omega arith in
    rw e (digit_at number (suc place) count k (omega arith))

pub length-bytes : (numbers : List ℕ) → length (bytes_of numbers) ≡ length numbers * 8
unfolding bytes_of
length-bytes [] = refl
length-bytes (number ∷ numbers) =
    let l : length (digits number ++ bytes_of numbers) ≡ length (digits number) + length (bytes_of numbers) = length-append (digits number) (bytes_of numbers) in
    omega (arith, length_digits number 0 8, length-bytes numbers)

pub bytes-joined : (earlier numbers : List ℕ) → bytes_of (earlier ++ numbers) ≡ bytes_of earlier ++ bytes_of numbers
unfolding bytes_of
bytes-joined [] numbers = refl
bytes-joined (number ∷ earlier) numbers = rw (bytes-joined earlier numbers) (sym (append_assoc (digits number) (bytes_of earlier) (bytes_of numbers)))

byte_at : (numbers : List ℕ) (k : ℕ) → k < length numbers * 8 → get_or (bytes_of numbers) k 0 ≡ digit_of (get_or numbers (k / 8) 0) (k % 8)
unfolding bytes_of
byte_at [] k h = absurd (omega arith)
byte_at (number ∷ numbers) k h = by-test
    (λ _. get_or (digits number ++ bytes_of numbers) k 0 ≡ digit_of (get_or (number ∷ numbers) (k / 8) 0) (k % 8))
    (ltb k 8)
    (λ t.
    let small : k < 8 = ltb-true k 8 t in
    let first : k / 8 ≡ 0 = omega arith in
    let place : k % 8 ≡ 0 + k = omega arith in
    let short : k < length (digits number) = omega (arith, length_digits number 0 8) in
    rw (first, place, get_or-append (digits number) (bytes_of numbers) 0 k short) (digit_at number 0 8 k small))
    (λ f.
    let large : 8 ≤ k = ltb-false k 8 f in
    let after : k ≡ length (digits number) + (k - 8) = omega (arith, length_digits number 0 8) in
    let next : k / 8 ≡ suc ((k - 8) / 8) = omega arith in
    let place : k % 8 ≡ (k - 8) % 8 = omega arith in
    ap (λ n. get_or (digits number ++ bytes_of numbers) n 0) after
    ∙ get_or-append-add (digits number) (bytes_of numbers) (k - 8) 0
    ∙ byte_at numbers (k - 8) (omega arith)
    ∙ rw (next, place) refl)

-- ---- numbers compared from a place on

module _ (numbers lines : List ℕ) (at : ℕ) (h : at + length lines ≤ length numbers) where
  there : List ℕ
  there = take (length lines) (drop at numbers)

  read-there : (k : ℕ) → k < length lines → get_or there k 0 ≡ get_or numbers (at + k) 0
  unfolding there
  read-there k l = get_or-take (length lines) (drop at numbers) k 0 l ∙ get_or-drop at numbers k 0

  each-same : bytes_eq lines there ≡ true → same_numbers numbers at lines ≡ true
  unfolding same_numbers
  each-same e =
      let same : lines ≡ there = (bytes_eq-Decides lines there).0 e in
      all_of _ _ (λ k l. eq-eqb _ _ (sym (ap (λ (x : List ℕ). get_or x k 0) same ∙ read-there k l)))

  all-same : same_numbers numbers at lines ≡ true → bytes_eq lines there ≡ true
  unfolding same_numbers there
  all-same e =
      let long : length there ≡ length lines = length-take-le (length lines) (drop at numbers) (omega (arith, length-drop at numbers, h)) in
      (bytes_eq-Decides lines there).1 (same_number_lists lines there (sym long) (λ k l. sym (read-there k l ∙ eqb-true _ _ (all-at _ _ e k l))))

  pub same_front : bytes_eq lines (take (length lines) (drop at numbers)) ≡ same_numbers numbers at lines
  unfolding there
  same_front =
      by-test (λ x. x ≡ same_numbers numbers at lines) (bytes_eq lines there) (λ t. sym (each-same t))
      (λ f. by-test (λ x. false ≡ x) (same_numbers numbers at lines) (λ t. absurd (false≢true (sym f ∙ all-same t))) (λ s. refl))

-- ---- numbers written byte by byte

pub byte-written : (bytes₀ : List ℕ) (at : ℕ) (numbers : List ℕ) (k : ℕ) {bytes : List ℕ} {byte : ℕ} → k < length numbers * 8
    → Written bytes₀ at (take k (bytes_of numbers)) bytes → byte ≡ digit_of (get_or numbers (k / 8) 0) (k % 8) → Written bytes₀ at (take (k + 1) (bytes_of numbers)) (set bytes (at + k) byte)
byte-written bytes₀ at numbers k h w f =
    written _ _ _ (rw (w.told, f, ← byte_at numbers k h, add-one) (one_more bytes₀ (bytes_of numbers) at k (omega (arith, length-bytes numbers))))

pub bytes-written : (bytes₀ : List ℕ) (at : ℕ) (numbers : List ℕ) (k : ℕ) {bytes : List ℕ} → length numbers * 8 ≤ k
    → Written bytes₀ at (take k (bytes_of numbers)) bytes → bytes ≡ sets bytes₀ at (bytes_of numbers)
bytes-written bytes₀ at numbers k h w =
    let long : length (bytes_of numbers) ≤ k = omega (arith, length-bytes numbers) in
    w.told ∙ ap (sets bytes₀ at) (take_all k (bytes_of numbers) long)

-- a part after another
pub joined : (room : List ℕ) (done more : List ℕ) (at : ℕ) {bytes bytes' : List ℕ} → length done * 8 ≡ at
    → bytes ≡ sets room 0 (bytes_of done) → bytes' ≡ sets bytes at (bytes_of more) → bytes' ≡ sets room 0 (bytes_of (done ++ more))
joined room done more at long e f =
    let here : 0 + length (bytes_of done) ≡ at = omega (arith, length-bytes done) in
    rw (f, e, ← here, bytes-joined done more) (then-more room (bytes_of done) (bytes_of more) 0)

-- the bytes at the front of their buffer
pub in-front : (room numbers : List ℕ) (count : ℕ) {bytes : List ℕ} → length numbers ≡ count → count * 8 ≤ length room
    → bytes ≡ sets room 0 (bytes_of numbers) → take (count * 8) bytes ≡ bytes_of numbers
in-front room numbers count long within e =
    let whole : length (bytes_of numbers) ≡ count * 8 = omega (arith, length-bytes numbers) in
    let front : sets room 0 (bytes_of numbers) ≡ bytes_of numbers ++ drop (0 + length (bytes_of numbers)) room = sets-eq (bytes_of numbers) room 0 (omega arith) in
    rw (e, front) (take_at (bytes_of numbers) (drop (0 + length (bytes_of numbers)) room) (count * 8) whole)

-- ---- a listing that is not refused

pub not-refused : (calendar bytes listing : List ℕ) (count : ℕ) → length calendar ≤ 1200 → length bytes ≡ count * 8 → count ≤ 240 → count % 5 ≡ 0 → length listing ≡ 336
    → first_of (listing_causes (length calendar) (length bytes) (length listing)) ≡ none
unfolding listing_causes length_causes
not-refused calendar bytes listing count hw hb hn hm hr =
    skip 1 _ (le-ltb 1200 (length calendar) hw)
    (skip 14 _ (le-ltb (length listing) (7 * (length bytes / 40)) (omega arith))
    (skip 18 _ (ap not (eq-eqb (length bytes % 40) 0 (omega arith)))
    (skip 18 _ (le-ltb 1500 (length bytes / 40) (omega arith))
    clear)))

length-lines : (calendar : Calendar) (book : Book) (table : List Trade) (entries : List Entry) → length (lines_of (run calendar book table entries)) ≡ length entries * 7
unfolding run lines_of line_of
length-lines calendar book table [] = refl
length-lines calendar book table (entry ∷ entries) =
    omega (arith, length-lines calendar (step calendar book table entry).book (step calendar book table entry).table entries)

length-entries : (count : ℕ) (bytes : List ℕ) → length (entries_of count bytes) ≡ count
unfolding entries_of
length-entries zero bytes = refl
length-entries (suc count) bytes = ap suc (length-entries count (drop 40 bytes))

pub length-listing : (calendar : Calendar) (bytes : List ℕ) → length (listing_of calendar bytes) ≡ length bytes / 40 * 7
unfolding listing_of
length-listing calendar bytes =
    length-lines calendar fresh_book journal_table (entries_of (length bytes / 40) bytes)
    ∙ ap (λ n. n * 7) (length-entries (length bytes / 40) bytes)

-- the lines in front of the buffer
pub lines-in-front : (calendar : Calendar) (bytes listing listing' : List ℕ) (count : ℕ) (o : Option ℕ) → length bytes ≡ count * 8 → count % 5 ≡ 0 → o ≡ none
    → listing' ≡ written_by o (listing_of calendar bytes) listing → take (count / 5 * 7) listing' ≡ listing_of calendar bytes
lines-in-front calendar bytes listing listing' count o h m n e =
    let front : listing' ≡ listing_of calendar bytes ++ drop (length (listing_of calendar bytes)) listing = e ∙ ap (λ o. written_by o (listing_of calendar bytes) listing) n in
    let long : length (listing_of calendar bytes) ≡ count / 5 * 7 = omega (arith, length-listing calendar bytes) in
    rw front (take_at (listing_of calendar bytes) (drop (length (listing_of calendar bytes)) listing) (count / 5 * 7) long)

-- ---- the lines that a journal ends with

pub ending : (calendar : Calendar) (start earlier events lines : List ℕ)
    → same_numbers (listing_of calendar (bytes_of ((start ++ earlier) ++ events))) ((length start + length earlier + length events) / 5 * 7 - length lines) lines
    ≡ ends_with calendar start earlier events lines
unfolding ends_with
ending calendar start earlier events lines = refl
