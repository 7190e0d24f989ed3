-- The trades on the table: their records, and what redemption makes of them. (01, The book; Twelve events; arts. 29, 60, 72)
-- Assumes nothing.
use Rattle.std.specs.Prelude.{ℕ, zero, suc, ◌+◌, ◌-◌, Bool, true, false, cond, List, [], ◌∷◌, ◌++◌, leb, eqb, take, drop, length, replicate}
use Rattle.money.specs.declared.units.Ticks.{Ticks}
use Rattle.money.specs.Units.{sheets, ticks}
use Rattle.money.specs.Money.{redemption}
pub use Rattle.rules.specs.declared.trade.Contract.{Contract}
pub use Rattle.rules.specs.declared.trade.Trade.{Trade}
pub use Rattle.rules.specs.declared.trade.Terms.{Terms}

-- two contracts are the same where their numbers agree
abbrev pub same : Contract → Contract → Bool
same a b = eqb a.0 b.0

-- what a freed slot is filled with
abbrev pub no_trade : Trade
no_trade = record { contract = record { 0 = 0 }; sheets = sheets 0; price = ticks 0; fallback = ticks 0; first = 0; due = 0; product = 0 }

-- a trade with another number of sheets left
abbrev pub with_sheets : ℕ → Trade → Trade
with_sheets count trade = record { contract = trade.contract; sheets = sheets count; price = trade.price; fallback = trade.fallback; first = trade.first; due = trade.due; product = trade.product }

-- the slots in use, the first of the table
abbrev pub in_use : ℕ → List Trade → List Trade
in_use count table = take count table

-- a number of each trade, summed
unfoldable pub total : (Trade → ℕ) → List Trade → ℕ
total f [] = 0
total f (trade ∷ trades) = f trade + total f trades

-- "O the sheets left on the table"
unfoldable pub outstanding : List Trade → ℕ
outstanding trades = total (λ trade. trade.sheets.0) trades

-- ---- a contract's trade

unfoldable pub on_table : Contract → List Trade → Bool
on_table contract [] = false
on_table contract (trade ∷ trades) = cond (same trade.contract contract) true (on_table contract trades)

unfoldable pub trade_of : Contract → List Trade → Trade
trade_of contract [] = no_trade
trade_of contract (trade ∷ trades) = cond (same trade.contract contract) trade (trade_of contract trades)

-- "contracts differ"
unfoldable pub differ : List Trade → Bool
differ [] = true
differ (trade ∷ trades) = cond (on_table trade.contract trades) false (differ trades)

-- "takes sheets off a trade"
unfoldable pub take_off : Contract → ℕ → List Trade → List Trade
take_off contract count [] = []
take_off contract count (trade ∷ trades) =
    cond (same trade.contract contract) (with_sheets (trade.sheets.0 - count) trade ∷ trades) (trade ∷ take_off contract count trades)

-- ---- redemption on a day that is paid on `payment`: "d is the payment day of the redemption less that of the initial trade"

abbrev pub redeemed : (payment : ℕ) → (count : ℕ) → Ticks → Trade → ℕ
redeemed payment count price trade = (redemption (sheets count) price (payment - trade.first)).0

-- "every trade is redeemed whole at its fallback price" (art. 72)
abbrev pub fallback_amount : (payment : ℕ) → Trade → ℕ
fallback_amount payment trade = redeemed payment trade.sheets.0 trade.fallback trade

abbrev pub emptied : Trade → Trade
emptied trade = with_sheets 0 trade

-- "trades due today or earlier are redeemed at their price"
abbrev pub maturing : (today : ℕ) → Trade → ℕ
maturing today trade = cond (leb trade.due today) trade.sheets.0 0

abbrev pub maturity_amount : (today payment : ℕ) → Trade → ℕ
maturity_amount today payment trade = redeemed payment (maturing today trade) trade.price trade

abbrev pub matured : (today : ℕ) → Trade → Trade
matured today trade = with_sheets (trade.sheets.0 - maturing today trade) trade

-- ---- "trades with nothing left leave the table, order kept"

abbrev pub leaves : ℕ → Trade → List Trade → List Trade
leaves zero trade trades = trades
leaves (suc count) trade trades = trade ∷ trades

unfoldable pub remaining : List Trade → List Trade
remaining [] = []
remaining (trade ∷ trades) = leaves trade.sheets.0 trade (remaining trades)

-- "A table slot that Close frees is filled with zeros; other spare slots keep their content."
abbrev pub packed : (count : ℕ) → (kept : List Trade) → List Trade → List Trade
packed count kept table = kept ++ (replicate (count - length kept) no_trade ++ drop count table)

-- trades changed one by one stand where they stood, and spare slots keep their content
abbrev pub over : (count : ℕ) → (changed : List Trade) → List Trade → List Trade
over count changed table = changed ++ drop count table
