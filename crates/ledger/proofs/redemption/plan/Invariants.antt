use Rattle.std.proofs.Common.{◌≡◌, ℕ, ◌<◌, ◌≤◌, ◌*◌}
use Rattle.money.specs.declared.units.Ticks.{Ticks}
use Rattle.rules.specs.Trades.{redeemed, total}
use Rattle.ledger.specs.Flat.{trade_at, trades_to}
use Rattle.ledger.specs.Types.{Trade}
use Rattle.ledger.specs.Redemption.{IsPart}
use Rattle.ledger.proofs.redemption.plan.Given as goal

abbrev pub invariant-loop-place : goal.invariant-loop-place
invariant-loop-place g l =
    (l.sheets ≤ l.place * 100000000) × (l.amount ≤ l.place * 106205500000000)
    × ((count_of : Trade → ℕ) (price_of : Trade → Ticks)
    → ((place : ℕ) (told : _) → place < l.count → goal.F-post g l.part (trade_at l.table place) told → IsPart count_of price_of (trade_at l.table place) told)
    → (l.sheets ≡ total count_of (trades_to l.table l.place))
    × (l.amount ≡ total (λ trade. redeemed l.payment (count_of trade) (price_of trade) trade) (trades_to l.table l.place)))
