-- What encoded events give, number by number, on a fresh book and on any. (01, The journal)
-- Assumes nothing.
use Rattle.std.specs.Prelude.{ℕ, zero, suc, ◌+◌, ◌*◌, ◌/◌, ◌%◌, not, List, [], ◌∷◌, ◌++◌, ltb, eqb, ℤ, pos, negsuc, nat_abs, length, take, drop, replicate}
use Rattle.std.proofs.Math.Option.{Option, none, some}
use Rattle.money.specs.Limits.{calendar_limit}
use Rattle.money.specs.Causes.{Cause, ◌⇒◌, first_of}
use Rattle.money.specs.Days.{Calendar}
use Rattle.rules.specs.Book.{Book, fresh_book}
use Rattle.rules.specs.Trades.{Trade, no_trade}
use Rattle.rules.specs.Vault.{outstanding_of, headroom}
use Rattle.rules.specs.Entry.{Entry, event_bytes, decoded}
use Rattle.rules.specs.Step.{Outcome, unfit}
use Rattle.rules.specs.Run.{Seen, run, last_book, last_table}

-- "a 32-bit count (to 1,500) and events of 40 bytes"
abbrev pub event_limit : ℕ
event_limit = 1500

-- "on a fresh book with capacity 1,024"
abbrev pub journal_capacity : ℕ
journal_capacity = 1024

abbrev pub journal_table : List Trade
journal_table = replicate journal_capacity no_trade

-- the entries that bytes hold, 40 after 40
unfoldable pub entries_of : (count : ℕ) → List ℕ → List Entry
entries_of zero bytes = []
entries_of (suc count) bytes = decoded (take event_bytes bytes) ∷ entries_of count (drop event_bytes bytes)

abbrev pub entries_in : List ℕ → List Entry
entries_in bytes = entries_of (length bytes / event_bytes) bytes

-- "a minus sign before a negative headroom"
abbrev pub sign_of : ℤ → ℕ
sign_of (pos n) = 0
sign_of (negsuc n) = 1

-- "answer, headroom, O, own, client, guarantee cash (effective and arriving)": headroom is told as its sign and its size
unfoldable pub line_of : Outcome → List ℕ
line_of left =
    left.answer.number
    ∷ sign_of (headroom left.book left.table)
    ∷ nat_abs (headroom left.book left.table)
    ∷ outstanding_of left.book left.table
    ∷ left.book.cash.own.0
    ∷ left.book.cash.client.0
    ∷ (left.book.vault.guarantee.effective.0 + left.book.vault.guarantee.arriving.0)
    ∷ []

abbrev pub line_numbers : ℕ
line_numbers = 7

unfoldable pub lines_of : List Seen → List ℕ
lines_of [] = []
lines_of (seen ∷ more) = line_of seen.left ++ lines_of more

-- the lines of some bytes' events on a fresh book
unfoldable pub listing_of : Calendar → List ℕ → List ℕ
listing_of calendar bytes = lines_of (run calendar fresh_book journal_table (entries_in bytes))

-- 14, "a limit would be passed": a buffer too short for the events' lines; 18: bytes that are no whole events, or more than a journal holds
unfoldable pub length_causes : (bytes room : ℕ) → List Cause
length_causes bytes room =
    (ltb room (line_numbers * (bytes / event_bytes)) ⇒ 14)
    ∷ (not (eqb (bytes % event_bytes) 0) ⇒ 18)
    ∷ (ltb event_limit (bytes / event_bytes) ⇒ 18)
    ∷ []

-- 1: "calendar above 1,200 words"; a fresh book is fit
unfoldable pub listing_causes : (words bytes room : ℕ) → List Cause
listing_causes words bytes room = (ltb calendar_limit words ⇒ 1) ∷ length_causes bytes room

-- the buffer afterwards: the lines in front, the rest as it was; refused, all as it was
abbrev pub written_by : Option ℕ → (lines buffer : List ℕ) → List ℕ
written_by none lines buffer = lines ++ drop (length lines) buffer
written_by (some number) lines buffer = buffer

-- ---- the same on any book and any table

-- a run's number, 0 if it is done, and the book after its last event
pub record Ran : Type 0 where
  pub number : ℕ
  pub book : Book

-- what a run leaves: its number and the book, the table, and the lent buffer
pub record RunOutcome : Type 0 where
  pub ran : Ran
  pub table : List Trade
  pub lines : List ℕ

-- 1: "book not fit, or calendar above 1,200 words"
unfoldable pub run_causes : Calendar → Book → List Trade → (bytes room : ℕ) → List Cause
run_causes calendar book table bytes room = (unfit calendar book table ⇒ 1) ∷ length_causes bytes room

-- a run that nothing refuses: the book and the table after its last event, and a line for each
unfoldable pub run_done : Calendar → Book → List Trade → (bytes buffer : List ℕ) → RunOutcome
run_done calendar book table bytes buffer =
    let seen = run calendar book table (entries_in bytes) in
    record { ran = record { number = 0; book = last_book book seen }; table = last_table table seen; lines = written_by none (lines_of seen) buffer }

-- a refused run leaves all as it was
abbrev pub refuse_run : Option ℕ → Book → List Trade → List ℕ → RunOutcome → RunOutcome
refuse_run none book table buffer done = done
refuse_run (some number) book table buffer done = record { ran = record { number = number; book = book }; table = table; lines = buffer }

unfoldable pub run_outcome : Calendar → Book → List Trade → (bytes buffer : List ℕ) → RunOutcome
run_outcome calendar book table bytes buffer =
    let cause = first_of (run_causes calendar book table (length bytes) (length buffer)) in
    refuse_run cause book table buffer (run_done calendar book table bytes buffer)
