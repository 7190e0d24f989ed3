use Rattle.std.proofs.Common.{◌≡◌, ◌≤◌, ◌*◌}
use Rattle.rules.specs.Fit.{trade_fit}
use Rattle.ledger.specs.Flat.{trades_to}
use Rattle.std.specs.Prelude.{true}
use Rattle.rules.specs.Trades.{total}
use Rattle.rules.specs.Fit.{all_trades}
use Rattle.rules.proofs.TradeLaws.{sheets_of}
use Rattle.ledger.specs.Figures.{latest_first}
use Rattle.ledger.proofs.trades.summary_of.Given as goal

abbrev pub invariant-loop-place : goal.invariant-loop-place
invariant-loop-place l =
    (all_trades trade_fit (trades_to l.table l.place) ≡ true) × (l.outstanding ≡ total sheets_of (trades_to l.table l.place)) × (l.outstanding ≤ l.place * 100000000) × (l.latest ≡ latest_first (trades_to l.table l.place))
