-- What a redemption gives, sheets and amount in one record: for private contracts. It states no rule.
-- Assumes nothing.
use Rattle.std.specs.Prelude.{◌≡◌, ℕ, ◌≤◌, List}
use Rattle.money.specs.Limits.{price_limit}
use Rattle.money.specs.declared.units.Sheets.{Sheets}
use Rattle.money.specs.declared.units.Ticks.{Ticks}
use Rattle.money.specs.Units.{fen, sheets}
use Rattle.rules.specs.Trades.{total, outstanding, redeemed, fallback_amount, maturing, maturity_amount}
use Rattle.ledger.specs.Types.{Trade}
pub use Rattle.ledger.specs.declared.redemption.Redeemed.{Redeemed}

-- more than any table is redeemed for: 4,096 trades of 10^8 sheets, 10,000 + 100,000 × 38,400 / 3,650 fen each
abbrev pub amount_bound : ℕ
amount_bound = 500000000000000000

-- what is redeemed of a trade, sheets and price: no more than it has and the limit, and what two functions of it say
abbrev pub IsWithin : Trade → Sheets × Ticks → Type 0
IsWithin trade part = (part.0.0 ≤ trade.sheets.0) × (part.1.0 ≤ price_limit)

abbrev pub IsPart : (count_of : Trade → ℕ) (price_of : Trade → Ticks) → Trade → Sheets × Ticks → Type 0
IsPart count_of price_of trade part = (part.0 ≡ sheets (count_of trade)) × (part.1 ≡ price_of trade)

-- of some trades so many sheets each, at a price
abbrev pub redeemed_of : (count_of : Trade → ℕ) (price_of : Trade → Ticks) (payment : ℕ) → List Trade → Redeemed
redeemed_of count_of price_of payment trades =
    record { sheets = sheets (total count_of trades); amount = fen (total (λ trade. redeemed payment (count_of trade) (price_of trade) trade) trades) }

-- Close: of some trades those due by a day, at their price
abbrev pub maturity_of : (today payment : ℕ) → List Trade → Redeemed
maturity_of today payment trades = record { sheets = sheets (total (maturing today) trades); amount = fen (total (maturity_amount today payment) trades) }

-- Open on turning terminated: all of them, at their fallback price
abbrev pub termination_of : (payment : ℕ) → List Trade → Redeemed
termination_of payment trades = record { sheets = sheets (outstanding trades); amount = fen (total (fallback_amount payment) trades) }
