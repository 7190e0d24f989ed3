-- A listing that is not refused, and the empty table that it starts on.
-- For the proofs of listing.rt. Assumes nothing.
use Rattle.std.specs.Prelude.{◌≡◌, ℕ, zero, suc, ◌+◌, ◌*◌, ◌<◌, ◌≤◌, true, List, get_or, replicate}
use mathlib.Core.Path.{refl}
use mathlib.Core.Option.{none, some}
use native.Mathlib.Numerals.{add-one}
use native.Mathlib.Omega.{arith}
use borrow.Author.Tests.{lt-ltb, le-ltb}
use lib.ListN.{length-replicate, get_or-replicate, replicate-append-replicate}
use Rattle.money.specs.Causes.{first_of}
use Rattle.money.proofs.Refusals.{hit, skip}
use Rattle.money.specs.Days.{Calendar}
use Rattle.rules.specs.Trades.{no_trade}
use Rattle.rules.specs.Book.{fresh_book}
use Rattle.rules.specs.Limits.{application_limit}
use Rattle.rules.specs.Fit.{fit}
use Rattle.rules.specs.Listing.{journal_capacity, journal_table, listing_of, length_causes, listing_causes, written_by, run_done}
use Rattle.rules.proofs.StaysFit.{fresh-is-fit}
use Rattle.ledger.specs.Flat.{width, held_length, trade_at, trades_to, capacity, trades_of, security_in, posting_in, up_to, rows_of, book_of, scalars_of}

-- ---- a listing that is not refused

module _ (words bytes room : ℕ) where
  pub words-past : 1200 < words → first_of (listing_causes words bytes room) ≡ some 1
  unfolding listing_causes
  words-past h = hit 1 _ (lt-ltb _ _ h)

  pub words-within : words ≤ 1200 → first_of (listing_causes words bytes room) ≡ first_of (length_causes bytes room)
  unfolding listing_causes
  words-within h = skip 1 _ (le-ltb _ _ h) refl

-- ---- the empty table

abbrev pub zeros : ℕ → List ℕ
zeros numbers = replicate numbers 0

zero-trade : (numbers place : ℕ) → place * width + 4 < numbers → trade_at (zeros numbers) place ≡ no_trade
unfolding trade_at
zero-trade numbers place h =
    let read : (i : ℕ) → i < numbers → get_or (zeros numbers) i 0 ≡ zero = λ i l. get_or-replicate numbers i zero zero l in
    rw (read (place * width) (omega arith), read (place * width + 1) (omega arith), read (place * width + 2) (omega arith), read (place * width + 3) (omega arith), read (place * width + 4) (omega arith))

zero-trades : (numbers count : ℕ) → count * width ≤ numbers → trades_to (zeros numbers) count ≡ replicate count no_trade
unfolding trades_to
zero-trades numbers zero h = refl
zero-trades numbers (suc count) h =
    rw (zero-trades numbers count (omega arith), zero-trade numbers count (omega arith))
    (rw add-one at (replicate-append-replicate count 1 no_trade))

-- a table of zeros has no trade in any of its slots
pub empty-table : (numbers count : ℕ) → count * width ≡ numbers → trades_of (zeros numbers) ≡ replicate count no_trade
empty-table numbers count e =
    let slots : capacity (zeros numbers) ≡ count = omega (arith, length-replicate numbers zero) in
    rw slots (zero-trades numbers count (omega arith))

pub journal-starts-empty : trades_of (zeros (journal_capacity * width)) ≡ journal_table
journal-starts-empty = empty-table (journal_capacity * width) journal_capacity refl

-- ---- a fresh book in rows of zeros

pub fresh-in-rows : book_of (scalars_of fresh_book) (rows_of (zeros held_length) (zeros application_limit) (zeros application_limit)) ≡ fresh_book
unfolding fresh_book up_to security_in posting_in
fresh-in-rows = refl

pub fresh-fits : (calendar : Calendar) → fit calendar fresh_book journal_table ≡ true
fresh-fits calendar = fresh-is-fit calendar journal_table (omega (arith, length-replicate journal_capacity no_trade))

-- the run on it is the listing
pub fresh-listing : (calendar : Calendar) (bytes buffer : List ℕ) → (run_done calendar fresh_book journal_table bytes buffer).lines ≡ written_by none (listing_of calendar bytes) buffer
unfolding listing_of run_done
fresh-listing calendar bytes buffer = refl
