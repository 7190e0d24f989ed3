-- Demand 3 of a run of encoded events: what a run that is not refused leaves and writes is what was seen of its entries, which meets it.
-- For the calls that run them. Assumes nothing.
use mathlib.Core.Path.{◌≡◌, refl}
use mathlib.Core.Bool.{not}
use mathlib.Core.List.{List}
use mathlib.Core.Option.{Option, none, some}
use Prim.Native.Nat.{ℕ}
use lib.Dec.{eqb}
use lib.ListN.{length}
use Rattle.money.specs.Causes.{Cause, first_of, number_of}
use Rattle.money.specs.Days.{Calendar}
use Rattle.rules.specs.Book.{fresh_book}
use Rattle.rules.specs.Trades.{Trade}
use Rattle.rules.specs.Run.{Seen, last_book, last_table}
use Rattle.rules.specs.Demand3.{seen_from, Demand3}
use Rattle.rules.specs.Listing.{journal_table, entries_in, lines_of, listing_of, length_causes, listing_causes, written_by, RunOutcome, run_causes, run_done, refuse_run, run_outcome}
use Rattle.rules.proofs.Answers.{none-at-0}
use Rattle.rules.proofs.Demand3Proof.{demand3}

-- what is seen of encoded events on a fresh book over a lent table, where the rules are kept
abbrev pub seen_in : Calendar → List Trade → (bytes : List ℕ) → List Seen
seen_in calendar table bytes = seen_from calendar table (entries_in bytes)

-- a run meets demand 3: its list does, and it leaves and writes what that list does
pub record MeetsDemand3 (calendar : Calendar) (table : List Trade) (bytes buffer : List ℕ) (left : RunOutcome) : Type 0 where
  pub claim : Demand3 calendar table (seen_in calendar table bytes)
  pub book-left : left.ran.book ≡ last_book fresh_book (seen_in calendar table bytes)
  pub table-left : left.table ≡ last_table table (seen_in calendar table bytes)
  pub lines-written : left.lines ≡ written_by none (lines_of (seen_in calendar table bytes)) buffer

-- ---- on a fresh book over any lent table

module _ (calendar : Calendar) (table : List Trade) (bytes buffer : List ℕ) where
  abbrev left : RunOutcome
  left = run_outcome calendar fresh_book table bytes buffer

  abbrev causes : List Cause
  causes = run_causes calendar fresh_book table (length bytes) (length buffer)

  number_is : (cause : Option ℕ)
      → (refuse_run cause fresh_book table buffer (run_done calendar fresh_book table bytes buffer)).ran.number ≡ number_of cause
  unfolding run_done
  number_is none = refl
  number_is (some n) = refl

  done-where-0 : left.ran.number ≡ 0 → left ≡ run_done calendar fresh_book table bytes buffer
  unfolding run_outcome run_causes length_causes
  done-where-0 z = rw (none-at-0 (λ k. not (eqb k 0)) causes _ refl refl (number_is (first_of causes)) z) refl

  pub run-meets-demand3 : left.ran.number ≡ 0 → MeetsDemand3 calendar table bytes buffer left
  unfolding run_done
  run-meets-demand3 z =
      rw (done-where-0 z) (record { claim = demand3 calendar table (entries_in bytes); book-left = refl; table-left = refl; lines-written = refl })

-- ---- the listing of a journal's events, on a fresh book over the journal's table

-- from what `run_listing` promises of its number and of the buffer
pub listing-meets-demand3 : (calendar : Calendar) (bytes buffer lines : List ℕ) (number : ℕ)
    → (let cause = first_of (listing_causes (length calendar) (length bytes) (length buffer)) in
    (number ≡ number_of cause) × (lines ≡ written_by cause (listing_of calendar bytes) buffer))
    → number ≡ 0
    → Demand3 calendar journal_table (seen_in calendar journal_table bytes)
    × (lines ≡ written_by none (lines_of (seen_in calendar journal_table bytes)) buffer)
unfolding listing_of listing_causes length_causes
listing-meets-demand3 calendar bytes buffer lines number promised z =
    let clear = none-at-0 (λ k. not (eqb k 0)) (listing_causes (length calendar) (length bytes) (length buffer)) number refl refl promised.0 z in
    (demand3 calendar journal_table (entries_in bytes), rw clear at promised.1)
