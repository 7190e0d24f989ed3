-- An event's contract on the flat table: whether it is on the table, which trade is its own, and what taking sheets off it writes.
-- For the events of one contract, which look its place up first. Assumes nothing.
use Rattle.std.specs.Prelude.{◌≡◌, ℕ, zero, suc, ◌-◌, ◌<◌, true, false, List, [], ◌∷◌, take, set}
use mathlib.Core.Path.{refl, sym, ap, ◌∙◌}
use native.Mathlib.Omega.{arith}
use lib.ListN.{take-append-drop}
use Rattle.rules.specs.Trades.{with_sheets, on_table, trade_of, take_off, over}
use Rattle.ledger.specs.Types.{Contract, Trade}
use Rattle.ledger.specs.Flat.{HasSlots, trade_at, trades_to, trades_of, StandsAt}
use Rattle.ledger.proofs.FlatLaws.{take-trades}
use Rattle.ledger.proofs.PlaceLaws.{on-table-there, trade-there, take-off-there}

-- setting one of the first is setting it among the first
pub set-over-take : (n : ℕ) (l : List Trade) (i : ℕ) (t : Trade) → i < n → set l i t ≡ over n (set (take n l) i t) l
set-over-take zero l i t h = absurd (omega arith)
set-over-take (suc n) [] i t h = refl
set-over-take (suc n) (x ∷ l) zero t h = ap (λ (r : List Trade). t ∷ r) (sym (take-append-drop n l))
set-over-take (suc n) (x ∷ l) (suc i) t h = ap (λ (r : List Trade). x ∷ r) (set-over-take n l i t (omega arith))

-- a contract that is not on the table is on none of it in use
pub missing : (table : List ℕ) (count : ℕ) (contract : Contract) → HasSlots table count → on_table contract (trades_to table count) ≡ false → on_table contract (take count (trades_of table)) ≡ false
missing table count contract room off = rw (take-trades table count (omega arith)) off

module _ (table : List ℕ) (count place : ℕ) (contract : Contract) (room : HasSlots table count) (stands : StandsAt table count contract place) where
  in_use-here : take count (trades_of table) ≡ trades_to table count
  in_use-here = take-trades table count (omega arith)

  pub present : on_table contract (take count (trades_of table)) ≡ true
  present = rw in_use-here (on-table-there table count place contract stands)

  pub trade-here : trade_of contract (take count (trades_of table)) ≡ trade_at table place
  trade-here = rw in_use-here (trade-there table count place contract stands)

  pub take-off-here : (q : ℕ)
      → set (trades_of table) place (with_sheets ((trade_at table place).sheets.0 - q) (trade_at table place))
      ≡ over count (take_off contract q (take count (trades_of table))) (trades_of table)
  take-off-here q =
      set-over-take count (trades_of table) place (with_sheets ((trade_at table place).sheets.0 - q) (trade_at table place)) stands.below
      ∙ ap (λ (r : List Trade). over count r (trades_of table)) (rw in_use-here (sym (take-off-there table count place contract stands q)))
