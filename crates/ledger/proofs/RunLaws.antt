-- A run of encoded events, event by event: what has been written, and what is left of the run.
-- For the proofs of run.rt and listing.rt. Assumes nothing.
use Rattle.std.specs.Prelude.{◌≡◌, ℕ, suc, ◌+◌, ◌-◌, ◌*◌, ◌/◌, ◌<◌, ◌≤◌, true, false, List, [], ◌++◌, length, take, drop}
use mathlib.Core.Path.{refl, sym, ap, ◌∙◌}
use mathlib.Core.List.{append_assoc, append-nil}
use mathlib.Core.Option.{Option, none, some}
use native.Mathlib.Omega.{arith}
use borrow.Author.Tests.{ltb-false}
use lib.ListN.{length-append, length-drop, take-append-drop}
use lib.Seq.{sets, length-sets, sets-eq, take_at, drop_at, drop-drop, length-take-le}
use Rattle.money.specs.Causes.{first_of}
use Rattle.money.specs.Days.{Calendar}
use Rattle.money.proofs.Refusals.{hit, skip, failed}
use Rattle.rules.specs.Fit.{fit}
use Rattle.rules.specs.Entry.{decoded}
use Rattle.rules.specs.Step.{Outcome, unfit, step}
use Rattle.rules.specs.Run.{run, last_book, last_table}
use Rattle.rules.specs.Listing.{entries_of, line_of, lines_of, length_causes, RunOutcome, run_causes, run_done, run_outcome}
use Rattle.rules.proofs.StaysFit.{step-keeps-fit}
use Rattle.ledger.specs.Types.{Book, Trade, Entry, Applied}
use Rattle.ledger.specs.Flat.{trades_of, applied_of}

-- ---- a row of numbers stored

module _ (vs l : List ℕ) (i : ℕ) (h : i + length vs ≤ length l) where
  length-to-stored : length (take i l ++ vs) ≡ i + length vs
  length-to-stored = rw (length-append (take i l) vs, length-take-le i l (omega arith))

  take-stored : take (i + length vs) (sets l i vs) ≡ take i l ++ vs
  take-stored = rw (sets-eq vs l i h) (take_at (take i l ++ vs) (drop (i + length vs) l) (i + length vs) length-to-stored)

  drop-stored : drop (i + length vs) (sets l i vs) ≡ drop (i + length vs) l
  drop-stored = rw (sets-eq vs l i h) (drop_at (take i l ++ vs) (drop (i + length vs) l) (i + length vs) length-to-stored)

-- ---- what an event leaves

pub fit-after : (calendar : Calendar) (book : Book) (table : List Trade) (entry : Entry) → fit calendar book table ≡ true
    → (applied : Applied) (table' : List Trade) → applied ≡ applied_of (step calendar book table entry) → table' ≡ (step calendar book table entry).table
    → fit calendar applied.book table' ≡ true
fit-after calendar book table entry f applied table' e t = rw (e, t) (step-keeps-fit calendar book table f entry)

-- ---- a run, one event more

length-line : (left : Outcome) → length (line_of left) ≡ 7
unfolding line_of
length-line left = refl

no_lines : (calendar : Calendar) (book : Book) (table : List Trade) (bytes : List ℕ) → lines_of (run calendar book table (entries_of 0 bytes)) ≡ []
unfolding entries_of run lines_of
no_lines calendar book table bytes = refl

line_first : (calendar : Calendar) (book : Book) (table : List Trade) (count : ℕ) (bytes : List ℕ) (left : Outcome) → step calendar book table (decoded (take 40 bytes)) ≡ left
    → lines_of (run calendar book table (entries_of (suc count) bytes)) ≡ line_of left ++ lines_of (run calendar left.book left.table (entries_of count (drop 40 bytes)))
unfolding entries_of run lines_of
line_first calendar book table count bytes left e = rw e

book-next : (calendar : Calendar) (book : Book) (table : List Trade) (count : ℕ) (bytes : List ℕ) (left : Outcome) → step calendar book table (decoded (take 40 bytes)) ≡ left
    → last_book book (run calendar book table (entries_of (suc count) bytes)) ≡ last_book left.book (run calendar left.book left.table (entries_of count (drop 40 bytes)))
unfolding entries_of run last_book
book-next calendar book table count bytes left e = ap (λ (o : Outcome). last_book o.book (run calendar o.book o.table (entries_of count (drop 40 bytes)))) e

table-next : (calendar : Calendar) (book : Book) (table : List Trade) (count : ℕ) (bytes : List ℕ) (left : Outcome) → step calendar book table (decoded (take 40 bytes)) ≡ left
    → last_table table (run calendar book table (entries_of (suc count) bytes)) ≡ last_table left.table (run calendar left.book left.table (entries_of count (drop 40 bytes)))
unfolding entries_of run last_table
table-next calendar book table count bytes left e = ap (λ (o : Outcome). last_table o.table (run calendar o.book o.table (entries_of count (drop 40 bytes)))) e

no_more : (calendar : Calendar) (book : Book) (table : List Trade) (bytes : List ℕ)
    → (last_book book (run calendar book table (entries_of 0 bytes)) ≡ book) × (last_table table (run calendar book table (entries_of 0 bytes)) ≡ table)
unfolding entries_of run last_book last_table
no_more calendar book table bytes = (refl, refl)

-- ---- an event's bytes, and those behind it

module _ (bytes : List ℕ) (k : ℕ) where
  module _ (part rest : List ℕ) (cut : drop (k * 40) bytes ≡ part ++ rest) (whole : length part ≡ 40) where
    pub part-taken : take 40 (drop (k * 40) bytes) ≡ part
    part-taken = rw cut (take_at part rest 40 whole)

    pub rest-dropped : rest ≡ drop ((k + 1) * 40) bytes
    rest-dropped =
        let next : (k + 1) * 40 ≡ k * 40 + 40 = omega arith in
        sym (rw next (sym (drop-drop 40 (k * 40) bytes) ∙ rw cut (drop_at part rest 40 whole)))

    pub one-more-whole : k < length bytes / 40
    one-more-whole = omega (arith, ap length cut, length-drop (k * 40) bytes, length-append part rest, whole)

  pub none-whole : length (drop (k * 40) bytes) < 40 → length bytes / 40 ≤ k
  none-whole h = omega (arith, h, length-drop (k * 40) bytes)

-- `k` of `count` events are run: their lines stand in front of `lines`, the rest of which is as it was, and the others are still to be run on the book and the table that they left
pub record RunTo (calendar : Calendar) (book₀ : Book) (bytes table₀ lines₀ : List ℕ) (count : ℕ) (table lines : List ℕ) (book : Book) (k : ℕ) : Type 0 where
  pub high : k ≤ count
  pub fits : fit calendar book (trades_of table) ≡ true
  pub long : length table ≡ length table₀
  pub wide : length lines ≡ length lines₀
  pub told : lines_of (run calendar book₀ (trades_of table₀) (entries_of count bytes)) ≡ take (k * 7) lines ++ lines_of (run calendar book (trades_of table) (entries_of (count - k) (drop (k * 40) bytes)))
  pub rest : drop (k * 7) lines ≡ drop (k * 7) lines₀
  pub booked : last_book book₀ (run calendar book₀ (trades_of table₀) (entries_of count bytes)) ≡ last_book book (run calendar book (trades_of table) (entries_of (count - k) (drop (k * 40) bytes)))
  pub tabled : last_table (trades_of table₀) (run calendar book₀ (trades_of table₀) (entries_of count bytes)) ≡ last_table (trades_of table) (run calendar book (trades_of table) (entries_of (count - k) (drop (k * 40) bytes)))

module _ (calendar : Calendar) (book₀ : Book) (bytes table₀ lines₀ : List ℕ) (count : ℕ) where
  -- the next event, by what it leaves
  one-run : (table lines : List ℕ) (book : Book) (k : ℕ) → RunTo calendar book₀ bytes table₀ lines₀ count table lines book k → k < count → count * 7 ≤ length lines₀
      → (left : Outcome) → step calendar book (trades_of table) (decoded (take 40 (drop (k * 40) bytes))) ≡ left
      → (table' lines' : List ℕ) (book' : Book) → length table' ≡ length table → book' ≡ left.book → trades_of table' ≡ left.table → lines' ≡ sets lines (k * 7) (line_of left)
      → RunTo calendar book₀ bytes table₀ lines₀ count table' lines' book' (k + 1)
  one-run table lines book k ran more room left e table' lines' book' same b t l =
      record {
        high = omega arith;
        fits = rw (b, t) (rw e at (step-keeps-fit calendar book (trades_of table) ran.fits (decoded (take 40 (drop (k * 40) bytes)))));
        long = same ∙ ran.long;
        wide = ap length l ∙ length-sets lines (k * 7) (line_of left) ∙ ran.wide;
        told = rw (b, t, front, further) (ran.told ∙ rw (fewer, line_first calendar book (trades_of table) (count - (k + 1)) (drop (k * 40) bytes) left e) (sym (append_assoc (take (k * 7) lines) (line_of left) _)));
        rest = rw (next-line, l, drop-stored (line_of left) lines (k * 7) fits_in) (after lines ∙ ap (drop 7) ran.rest ∙ sym (after lines₀));
        booked = rw (b, t, further) (ran.booked ∙ rw fewer (book-next calendar book (trades_of table) (count - (k + 1)) (drop (k * 40) bytes) left e));
        tabled = rw (b, t, further) (ran.tabled ∙ rw fewer (table-next calendar book (trades_of table) (count - (k + 1)) (drop (k * 40) bytes) left e));
      }
    where
      next-line : (k + 1) * 7 ≡ k * 7 + length (line_of left)
      next-line = omega (arith, length-line left)

      fits_in : k * 7 + length (line_of left) ≤ length lines
      fits_in = omega (arith, length-line left, ran.wide)

      front : take ((k + 1) * 7) lines' ≡ take (k * 7) lines ++ line_of left
      front = rw (next-line, l) (take-stored (line_of left) lines (k * 7) fits_in)

      after : (x : List ℕ) → drop (k * 7 + length (line_of left)) x ≡ drop 7 (drop (k * 7) x)
      after x = rw (length-line left) (sym (drop-drop 7 (k * 7) x))

      further : drop ((k + 1) * 40) bytes ≡ drop 40 (drop (k * 40) bytes)
      further = let next : (k + 1) * 40 ≡ k * 40 + 40 = omega arith in rw next (sym (drop-drop 40 (k * 40) bytes))

      fewer : count - k ≡ suc (count - (k + 1))
      fewer = omega arith

  pub next-run : (table lines : List ℕ) (book : Book) (k : ℕ) → RunTo calendar book₀ bytes table₀ lines₀ count table lines book k → k < count → count * 7 ≤ length lines₀
      → (part : List ℕ) → take 40 (drop (k * 40) bytes) ≡ part
      → (table' lines' : List ℕ) (book' : Book) → length table' ≡ length table → book' ≡ (step calendar book (trades_of table) (decoded part)).book
      → trades_of table' ≡ (step calendar book (trades_of table) (decoded part)).table → lines' ≡ sets lines (k * 7) (line_of (step calendar book (trades_of table) (decoded part)))
      → RunTo calendar book₀ bytes table₀ lines₀ count table' lines' book' (k + 1)
  next-run table lines book k ran more room part p = one-run table lines book k ran more room (step calendar book (trades_of table) (decoded part)) (rw p refl)

  -- all of them: what the run says
  pub all-run : (table lines : List ℕ) (book : Book) (k : ℕ) → count ≡ length bytes / 40 → RunTo calendar book₀ bytes table₀ lines₀ count table lines book k → count ≤ k → count * 7 ≤ length lines₀
      → (book ≡ (run_done calendar book₀ (trades_of table₀) bytes lines₀).ran.book) × (trades_of table ≡ (run_done calendar book₀ (trades_of table₀) bytes lines₀).table) × (lines ≡ (run_done calendar book₀ (trades_of table₀) bytes lines₀).lines)
  unfolding run_done
  all-run table lines book k all ran end room =
      rw (← all) (
        sym (ran.booked ∙ rw none_left (no_more calendar book (trades_of table) (drop (k * 40) bytes)).0),
        sym (ran.tabled ∙ rw none_left (no_more calendar book (trades_of table) (drop (k * 40) bytes)).1),
        rw (front, length-take-le (k * 7) lines (omega (arith, ran.wide, ran.high)), ← ran.rest) (sym (take-append-drop (k * 7) lines)),
      )
    where
      none_left : count - k ≡ 0
      none_left = omega arith

      front : lines_of (run calendar book₀ (trades_of table₀) (entries_of count bytes)) ≡ take (k * 7) lines
      front = ran.told ∙ rw (none_left, no_lines calendar book (trades_of table) (drop (k * 40) bytes)) (append-nil (take (k * 7) lines))

-- ---- the lent lengths

module _ (bytes room : ℕ) where
  pub lines_fit : none ≡ first_of (length_causes bytes room) → 7 * (bytes / 40) ≤ room
  unfolding length_causes
  lines_fit e = ltb-false room (7 * (bytes / 40)) ((failed _ (sym e) 14).0 refl)

-- ---- a run on any book: when it is refused, and when it goes on

module _ (calendar : Calendar) (book : Book) (table : List Trade) (bytes buffer : List ℕ) where
  abbrev left : RunOutcome
  left = run_outcome calendar book table bytes buffer

  -- nothing is changed beside a number
  abbrev pub Refused : ℕ → Type 0
  Refused n = (record { number = n; book = book } ≡ left.ran) × (table ≡ left.table) × (buffer ≡ left.lines)

  refused-by : (n : ℕ) → first_of (run_causes calendar book table (length bytes) (length buffer)) ≡ some n → Refused n
  unfolding run_outcome
  refused-by n e = rw e (refl, refl, refl)

  pub unfit-run : unfit calendar book table ≡ true → Refused 1
  unfolding run_causes
  unfit-run e = refused-by 1 (hit 1 _ e)

  by_lengths : unfit calendar book table ≡ false → (o : Option ℕ) → first_of (length_causes (length bytes) (length buffer)) ≡ o → first_of (run_causes calendar book table (length bytes) (length buffer)) ≡ o
  unfolding run_causes
  by_lengths e o l = skip 1 _ e l

  pub bad-lengths : unfit calendar book table ≡ false → (n : ℕ) → some n ≡ first_of (length_causes (length bytes) (length buffer)) → Refused n
  bad-lengths e n m = refused-by n (by_lengths e (some n) (sym m))

  pub goes_on : unfit calendar book table ≡ false → none ≡ first_of (length_causes (length bytes) (length buffer)) → left ≡ run_done calendar book table bytes buffer
  unfolding run_outcome
  goes_on e m = rw (by_lengths e none (sym m))

  pub ran-through : {after : Book} → after ≡ (run_done calendar book table bytes buffer).ran.book → record { number = 0; book = after } ≡ (run_done calendar book table bytes buffer).ran
  unfolding run_done
  ran-through e = ap (λ (b : Book). record { number = 0; book = b }) e
