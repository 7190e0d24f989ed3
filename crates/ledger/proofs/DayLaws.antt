-- The book's days, by what the searches of the calendar told.
-- Assumes nothing.
use Rattle.std.specs.Prelude.{◌≡◌, ℕ, ◌≤◌, false, not, length, Result, Ok, Err, Some, None, is_some}
use Rattle.std.specs.Result.{result_ok}
use Rattle.std.specs.Option.{unwrap_or}
use mathlib.Core.Path.{refl, sym, ap, ◌∙◌}
use mathlib.Core.Bool.{false≢true}
use mathlib.Core.Option.{Option, none, some}
use Rattle.money.specs.declared.refusal.Refusal.{Refusal}
use Rattle.money.specs.Limits.{calendar_limit}
use Rattle.money.specs.Days.{Calendar, found_of, search_result, missing, day_or_0}
use Rattle.money.proofs.Answers.{day_told, day_found}
use Rattle.rules.specs.Days.{to_day, followed}

as-day : (told : Result ℕ Refusal) (found : Option ℕ) → day_told told ≡ found → result_ok told ≡ to_day found
as-day (Ok day) found e = ap to_day e
as-day (Err refusal) found e = ap to_day e

-- the words are those of a calendar within its limit
pub found-day : (search : Calendar → Option ℕ) (words calendar : Calendar) (told : Result ℕ Refusal) → words ≡ calendar → length words ≤ calendar_limit → found_of told ≡ search_result words (search words)
    → result_ok told ≡ to_day (search calendar)
found-day search words calendar told is within e = as-day told (search words) (day_found words (search words) told within e) ∙ ap (λ calendar. to_day (search calendar)) is

-- ---- a day found, as an Option of the code

pub day-or-0 : (found : Option ℕ) → unwrap_or (to_day found) 0 ≡ day_or_0 found
day-or-0 none = refl
day-or-0 (some day) = refl

pub not-missing : (found : Option ℕ) → is_some (to_day found) ≡ not (missing found)
not-missing none = refl
not-missing (some day) = refl

-- a day found has what follows it, and where none was found nothing follows
pub found_followed : (calendar : Calendar) (found : Option ℕ) (day : ℕ) → Some day ≡ to_day found → followed calendar (some day) ≡ followed calendar found
found_followed calendar none day e = absurd (false≢true (sym (ap is_some e)))
found_followed calendar (some found) day e = ap (λ day. followed calendar (some (unwrap_or day 0))) e

pub none_followed : (calendar : Calendar) (found : Option ℕ) → None ≡ to_day found → false ≡ followed calendar found
unfolding followed
none_followed calendar none e = refl
none_followed calendar (some day) e = absurd (false≢true (ap is_some e))
