-- Early: the bound of the amount, what a place of a trade in use tells of what is taken there, and what no refusal leaves to the code.
-- Assumes nothing.
use Rattle.std.specs.Prelude.{◌≡◌, ℕ, ◌-◌, ◌≤◌, false, List, length}
use mathlib.Core.Option.{none}
use native.Mathlib.Omega.{arith}
use borrow.Author.Tests.{ltb-false}
use Rattle.money.specs.declared.units.Sheets.{Sheets}
use Rattle.money.specs.declared.units.Ticks.{Ticks}
use Rattle.money.specs.Units.{sheets}
use Rattle.money.specs.Limits.{trade_limit, price_limit}
use Rattle.money.specs.Causes.{first_of}
use Rattle.money.specs.Days.{Calendar}
use Rattle.money.proofs.Bounds.{redemption-bound}
use Rattle.rules.specs.Unpaid.{passes}
use Rattle.rules.specs.Days.{payment_day}
use Rattle.rules.specs.Trades.{redeemed}
use Rattle.rules.specs.Early.{named, early_amount, take_causes}
use Rattle.rules.proofs.FoldLaws.{neither}
use Rattle.ledger.specs.Types.{Book, Contract, Trade}
use Rattle.ledger.specs.Flat.{Rows, StandsAt, trade_at, trades_of, book_of, Kept, Redeemable, Running}
use Rattle.ledger.specs.Redemption.{amount_bound}
use Rattle.scalars.specs.declared.state.Scalars.{Scalars}
use Rattle.ledger.proofs.FitFacts.{payment-within, fit-keeps, fit-redeemable}
use Rattle.ledger.proofs.RedemptionLaws.{part-within}
use Rattle.ledger.proofs.Groups.{group-clear}
use Rattle.ledger.proofs.ContractLaws.{trade-here}

-- the amount is within what a net takes in
pub early-at-most : (calendar : Calendar) (book : Book) (table : List Trade) (contract : Contract) (count : Sheets) (price : Ticks) → length calendar ≤ 1200 → count.0 ≤ trade_limit → price.0 ≤ price_limit
    → early_amount calendar book table contract count price ≤ amount_bound
early-at-most calendar book table contract count price few h k =
    omega (arith, redemption-bound (sheets count.0) price (payment_day calendar book.standing.day - (named book table contract).first) k (omega (arith, payment-within calendar book.standing.day few)))

module _ {calendar : Calendar} {scalars : Scalars} {table : List ℕ} {place : ℕ} {price : Ticks} (running : Running calendar scalars table place price) where
  pub running-keeps : Kept table scalars.trades
  running-keeps = fit-keeps calendar (book_of scalars running.book.rows) table running.book.fits

  pub running-redeemable : Redeemable table scalars.trades (payment_day calendar scalars.standing.day)
  running-redeemable = fit-redeemable calendar (book_of scalars running.book.rows) table running.book.fits running.book.few

  -- sheets that the trade has are few, and so is their amount
  module _ (count : Sheets) (enough : count.0 ≤ (trade_at table place).sheets.0) where
    pub few-to-take : count.0 ≤ trade_limit
    few-to-take = (part-within _ _ _ running-redeemable place running.below (count, price) (enough, running.cheap)).0

    pub running-at-most : redeemed (payment_day calendar scalars.standing.day) count.0 price (trade_at table place) ≤ amount_bound
    running-at-most = omega (arith, (part-within _ _ _ running-redeemable place running.below (count, price) (enough, running.cheap)).2)

-- where no cause of the group applies, the trade has the sheets, and U has room for the amount
module _ (calendar : Calendar) (scalars : Scalars) (rows : Rows) (table : List ℕ) (contract : Contract) (count : Sheets) (price : Ticks)
    (none-applies : none ≡ first_of (take_causes calendar (book_of scalars rows) (trades_of table) contract count price)) where
  pub has-to-take : {place : ℕ} → Kept table scalars.trades → StandsAt table scalars.trades contract place → count.0 ≤ (trade_at table place).sheets.0
  has-to-take keeps stands = rw (trade-here _ _ _ _ keeps.room stands) at (ltb-false _ _ (group-clear _ none-applies 13))

  pub has-room : passes (early_amount calendar (book_of scalars rows) (trades_of table) contract count price) scalars.sums.unpaid ≡ false
  has-room = (neither _ _ (group-clear _ none-applies 14)).1
