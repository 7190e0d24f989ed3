-- The book's days: the next one to open, and a trading day with another following. (01, Days; Twelve events, 1)
-- Assumes nothing.
use Rattle.std.specs.Prelude.{ℕ, Bool, false, not}
use Rattle.std.proofs.Math.Option.{Option, none, some}
use Rattle.money.specs.Days.{Calendar, earliest, next_after, missing, day_or_0}
use Rattle.rules.specs.Book.{Day}
use Rattle.std.specs.Prelude.{None, Some}
use Rattle.rules.specs.declared.book.Book.{Book}

-- "goes to the next trading day, at first the earliest"
unfoldable pub following : Calendar → Day → Option ℕ
following calendar None = earliest calendar
following calendar (Some day) = next_after calendar day

-- a day that was found, or none
abbrev pub to_day : Option ℕ → Day
to_day none = None
to_day (some day) = Some day

-- today's number
abbrev pub day_number : Day → ℕ
day_number None = 0
day_number (Some day) = day

abbrev pub today : Book → ℕ
today book = day_number book.standing.day

-- "The payment day of a trading day is the next one (art. 61)." Of no day it would be the earliest; a book without a day has no trade.
unfoldable pub payment_day : Calendar → Day → ℕ
payment_day calendar day = day_or_0 (following calendar day)

-- a trading day was found, and another follows it
unfoldable pub followed : Calendar → Option ℕ → Bool
followed calendar none = false
followed calendar (some day) = not (missing (next_after calendar day))
