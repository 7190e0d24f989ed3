-- Trading days. (01, Days; art. 61)
-- Assumes nothing.
use Rattle.std.specs.Prelude.{ℕ, zero, suc, ◌+◌, ◌-◌, ◌*◌, ◌/◌, ◌%◌, ◌^◌, Bool, true, false, cond, List, [], ◌∷◌, ltb, eqb, length, get_or, Result, Ok, Err}
use Rattle.std.proofs.Math.Option.{Option, none, some}
use Rattle.money.specs.Limits.{calendar_limit}
use Rattle.money.specs.Causes.{Cause, ◌⇒◌, Refusal, first_of, number_of, result_of, refusal_number}
pub use Rattle.money.specs.declared.days.Found.{Found}

-- "The calendar is a lent list of at most 1,200 words of 32 bits"
abbrev pub Calendar : Type 0
Calendar = List ℕ

-- "bit b (0 lowest) of word w, from 0, is set where day 32w + b trades"
unfoldable pub trades : Calendar → ℕ → Bool
trades calendar day = eqb (get_or calendar (day / 32) 0 / 2 ^ (day % 32) % 2) 1

-- the first of some days in a row that trades
unfoldable pub first_trading : (count : ℕ) → Calendar → (from : ℕ) → Option ℕ
first_trading zero calendar day = none
first_trading (suc count) calendar day = cond (trades calendar day) (some day) (first_trading count calendar (suc day))

-- the first trading day at or after a day, of the 32 days that each word has
unfoldable pub at_or_after : Calendar → ℕ → Option ℕ
at_or_after calendar day = first_trading (32 * length calendar - day) calendar day

-- "the next trading day after a day"; "The payment day of a trading day is the next one (art. 61)."
unfoldable pub next_after : Calendar → ℕ → Option ℕ
next_after calendar day = at_or_after calendar (day + 1)

-- the earliest trading day
unfoldable pub earliest : Calendar → Option ℕ
earliest calendar = at_or_after calendar 0

abbrev pub missing : Option ℕ → Bool
missing none = true
missing (some day) = false

abbrev pub day_or_0 : Option ℕ → ℕ
day_or_0 none = 0
day_or_0 (some day) = day

-- "a search in a calendar above 1,200 words is 1, and one that finds no later trading day is 16" (01, Turned-down events)
abbrev pub search_causes : Calendar → Option ℕ → List Cause
search_causes calendar found = (ltb calendar_limit (length calendar) ⇒ 1) ∷ (missing found ⇒ 16) ∷ []

abbrev pub searched : Option ℕ → Option ℕ → Found
searched refusal found = record { number = number_of refusal; day = result_of refusal (day_or_0 found) }

-- a day that was answered, or a refusal, as C has it
abbrev pub found_of : Result ℕ Refusal → Found
found_of (Ok day) = record { number = 0; day = day }
found_of (Err refusal) = record { number = refusal_number refusal; day = 0 }

-- a call that searches: its number and the day found
unfoldable pub search_result : Calendar → Option ℕ → Found
search_result calendar found = searched (first_of (search_causes calendar found)) found
