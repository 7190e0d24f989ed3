-- Amounts of money. (01, Money; art. 60)
-- Assumes nothing.
use Rattle.std.specs.Prelude.{ℕ, ◌+◌, ◌*◌, ◌/◌, List, [], ◌∷◌, ltb, Result, Ok, Err}
use Rattle.std.proofs.Math.Option.{Option}
use Rattle.money.specs.Units.{Fen, Sheets, Ticks, fen, sheet_fen}
use Rattle.money.specs.Limits.{trade_limit, price_limit, term_limit}
use Rattle.money.specs.Causes.{Cause, ◌⇒◌, Refusal, first_of, number_of, result_of, refusal_number}
pub use Rattle.money.specs.declared.amounts.Amount.{Amount}

-- a quotient "rounded once to the nearest", "half upward"
abbrev pub nearest : ℕ → ℕ → ℕ
nearest dividend divisor = (2 * dividend + divisor) / (2 * divisor)

-- "An initial trade of q sheets is 10,000q fen.", which a redemption gives back
unfoldable pub principal : Sheets → Fen
principal q = fen (sheet_fen * q.0)

-- "q×P×d/3650 fen, that second part rounded once to the nearest fen, half upward"
unfoldable pub income : Sheets → Ticks → ℕ → Fen
income q price days = fen (nearest (q.0 * price.0 * days) 3650)

-- "A redemption of q sheets at P ticks over d days is 10,000q plus q×P×d/3650 fen"
unfoldable pub redemption : Sheets → Ticks → ℕ → Fen
redemption q price days = fen ((principal q).0 + (income q price days).0)

-- "an amount with sheets or a price past its limit, or over more than 38,400 days, is 14" (01, Turned-down events)
abbrev pub initial_amount_causes : Sheets → List Cause
initial_amount_causes q = (ltb trade_limit q.0 ⇒ 14) ∷ []

abbrev pub redemption_causes : Sheets → Ticks → ℕ → List Cause
redemption_causes q price days =
    (ltb trade_limit q.0 ⇒ 14) ∷ (ltb price_limit price.0 ⇒ 14) ∷ (ltb term_limit days ⇒ 14) ∷ []

abbrev pub amount : Option ℕ → Fen → Amount
amount refusal due = record { number = number_of refusal; fen = fen (result_of refusal due.0) }

-- an answer of the calls, as C has it
abbrev pub amount_of : Result Fen Refusal → Amount
amount_of (Ok due) = record { number = 0; fen = due }
amount_of (Err refusal) = record { number = refusal_number refusal; fen = fen 0 }

-- the calls: the number, and beside it the amount
unfoldable pub initial_amount : Sheets → Amount
initial_amount q = amount (first_of (initial_amount_causes q)) (principal q)

unfoldable pub redemption_amount : Sheets → Ticks → ℕ → Amount
redemption_amount q price days = amount (first_of (redemption_causes q price days)) (redemption q price days)
