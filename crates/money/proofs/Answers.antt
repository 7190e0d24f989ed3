-- What an answer says to its caller: within the limits a call gives its rule's result, and a search tells the day that was found, if any was.
-- Assumes nothing.
use mathlib.Core.Path.{◌≡◌, refl, ap, ◌∙◌}
use mathlib.Core.Option.{Option, none, some}
use Prim.Native.Nat.{ℕ, ◌≤◌}
use native.Mathlib.Omega.{arith}
use borrow.Author.Tests.{le-ltb}
use lib.ListN.{length}
use Rattle.std.specs.Prelude.{Result, Ok, Err}
use Rattle.money.specs.Units.{Fen, Sheets, Ticks}
use Rattle.money.specs.Limits.{calendar_limit, trade_limit, price_limit, term_limit, rate_limit}
use Rattle.money.specs.Causes.{Refusal}
use Rattle.money.specs.Days.{Calendar, Found, found_of, search_result}
use Rattle.money.specs.Money.{Amount, principal, redemption, amount_of, initial_amount, redemption_amount}
use Rattle.money.specs.Collateral.{Worth, rate_of, unit_limit_of, kind_value, worth_of, kind_worth}
use Rattle.money.proofs.Refusals.{not-0, hit, skip, clear}

-- ---- a search: what a call told of it

-- the day told, if one is
abbrev pub day_told : Result ℕ Refusal → Option ℕ
day_told (Ok day) = some day
day_told (Err refusal) = none

found-given : (calendar : Calendar) (day : ℕ) → length calendar ≤ calendar_limit → search_result calendar (some day) ≡ record { number = 0; day = day }
unfolding search_result
found-given calendar day h = rw (skip _ _ (le-ltb _ _ h) (skip _ _ refl clear)) refl

number-16-where-none : (calendar : Calendar) → length calendar ≤ calendar_limit → (search_result calendar none).number ≡ 16
unfolding search_result
number-16-where-none calendar h = rw (skip _ _ (le-ltb _ _ h) (hit _ _ refl)) refl

-- under a calendar within its limit it is the day that the search found, and none where that found none
pub day_found : (calendar : Calendar) (found : Option ℕ) (told : Result ℕ Refusal) → length calendar ≤ calendar_limit → found_of told ≡ search_result calendar found → day_told told ≡ found
day_found calendar none (Ok day) h e = absurd (omega (arith, ap (λ (f : Found). f.number) e, number-16-where-none calendar h))
day_found calendar none (Err refusal) h e = refl
day_found calendar (some day) (Ok told) h e = ap (λ (f : Found). some f.day) (e ∙ found-given calendar day h)
day_found calendar (some day) (Err refusal) h e = absurd (not-0 refusal (ap (λ (f : Found). f.number) (e ∙ found-given calendar day h)))

-- ---- amounts and values within their limits: the call tells its rule's result

initial-given : (q : Sheets) → q.0 ≤ trade_limit → initial_amount q ≡ record { number = 0; fen = principal q }
unfolding initial_amount
initial-given q h = rw (skip _ _ (le-ltb _ _ h) clear) refl

redemption-given : (q : Sheets) (price : Ticks) (days : ℕ) → q.0 ≤ trade_limit → price.0 ≤ price_limit → days ≤ term_limit → redemption_amount q price days ≡ record { number = 0; fen = redemption q price days }
unfolding redemption_amount
redemption-given q price days h k l = rw (skip _ _ (le-ltb _ _ h) (skip _ _ (le-ltb _ _ k) (skip _ _ (le-ltb _ _ l) clear))) refl

worth-given : (kind effective frozen rate : ℕ) → kind ≤ 32 → frozen ≤ effective → effective ≤ unit_limit_of kind → rate_of kind rate ≤ rate_limit → kind_worth kind effective frozen rate ≡ record { number = 0; sheets = kind_value kind effective frozen rate }
unfolding kind_worth
worth-given kind effective frozen rate h k l m =
    rw (skip _ _ (le-ltb _ _ h) (skip _ _ (le-ltb _ _ k) (skip _ _ (le-ltb _ _ l) (skip _ _ (le-ltb _ _ m) clear)))) refl

amount-told : (told : Result Fen Refusal) (due : Fen) → amount_of told ≡ record { number = 0; fen = due } → told ≡ Ok due
amount-told (Ok told) due e = ap (λ (amount : Amount). Ok amount.fen) e
amount-told (Err refusal) due e = absurd (not-0 refusal (ap (λ (amount : Amount). amount.number) e))

pub initial_within : (q : Sheets) (told : Result Fen Refusal) → q.0 ≤ trade_limit → amount_of told ≡ initial_amount q → told ≡ Ok (principal q)
initial_within q told h e = amount-told told _ (e ∙ initial-given q h)

pub redemption_within : (q : Sheets) (price : Ticks) (days : ℕ) (told : Result Fen Refusal) → q.0 ≤ trade_limit → price.0 ≤ price_limit → days ≤ term_limit → amount_of told ≡ redemption_amount q price days → told ≡ Ok (redemption q price days)
redemption_within q price days told h k l e = amount-told told _ (e ∙ redemption-given q price days h k l)

pub worth_within : (kind effective frozen rate : ℕ) (told : Result Sheets Refusal) → kind ≤ 32 → frozen ≤ effective → effective ≤ unit_limit_of kind → rate_of kind rate ≤ rate_limit
    → worth_of told ≡ kind_worth kind effective frozen rate → told ≡ Ok (kind_value kind effective frozen rate)
worth_within kind effective frozen rate (Ok value) h k l m e = ap (λ (worth : Worth). Ok worth.sheets) (e ∙ worth-given kind effective frozen rate h k l m)
worth_within kind effective frozen rate (Err refusal) h k l m e =
    absurd (not-0 refusal (ap (λ (worth : Worth). worth.number) (e ∙ worth-given kind effective frozen rate h k l m)))
