-- What a kind of collateral is worth. (01, Collateral and headroom; arts. 4, 41, 54)
-- Assumes nothing.
use Rattle.std.specs.Prelude.{ℕ, ◌-◌, ◌*◌, ◌/◌, cond, List, [], ◌∷◌, ltb, eqb, Result, Ok, Err}
use Rattle.std.proofs.Math.Option.{Option}
use Rattle.money.specs.Units.{Sheets, sheets}
use Rattle.money.specs.Limits.{unit_limit, cash_limit, rate_limit}
use Rattle.money.specs.Causes.{Cause, ◌⇒◌, Refusal, first_of, number_of, result_of, refusal_number}
pub use Rattle.money.specs.declared.collateral.Worth.{Worth}

-- "Kind 32 is guarantee cash"
abbrev pub cash_kind : ℕ
cash_kind = 32

-- "its rate number fixed at 1"
abbrev pub rate_of : ℕ → ℕ → ℕ
rate_of kind rate = cond (eqb kind cash_kind) 1 rate

-- cash is limited as cash, a security by its units
abbrev pub unit_limit_of : ℕ → ℕ
unit_limit_of kind = cond (eqb kind cash_kind) cash_limit unit_limit

-- "Its value is (effective - frozen) × rate / 10,000, rounded down for that kind."
unfoldable pub kind_value : (kind effective frozen rate : ℕ) → Sheets
kind_value kind effective frozen rate = sheets ((effective - frozen) * rate_of kind rate / 10000)

-- "a kind's value with kind above 32 is 3, with frozen above effective 13, with units or rate past a limit 14"
abbrev pub worth_causes : (kind effective frozen rate : ℕ) → List Cause
worth_causes kind effective frozen rate =
    (ltb cash_kind kind ⇒ 3)
    ∷ (ltb effective frozen ⇒ 13)
    ∷ (ltb (unit_limit_of kind) effective ⇒ 14)
    ∷ (ltb rate_limit (rate_of kind rate) ⇒ 14)
    ∷ []

abbrev pub worth : Option ℕ → Sheets → Worth
worth refusal value = record { number = number_of refusal; sheets = sheets (result_of refusal value.0) }

-- an answer of the call, as C has it
abbrev pub worth_of : Result Sheets Refusal → Worth
worth_of (Ok value) = record { number = 0; sheets = value }
worth_of (Err refusal) = record { number = refusal_number refusal; sheets = sheets 0 }

-- the call: the number, and beside it the value
unfoldable pub kind_worth : (kind effective frozen rate : ℕ) → Worth
kind_worth kind effective frozen rate =
    worth (first_of (worth_causes kind effective frozen rate)) (kind_value kind effective frozen rate)
