use Rattle.std.proofs.Common.{◌≡◌, map, length}
use Rattle.rules.specs.Trades.{matured, over}
use Rattle.ledger.specs.Flat.{trades_to, trades_of}
use Rattle.ledger.proofs.redemption.redeem_due.Given as goal

abbrev pub invariant-loop-place : goal.invariant-loop-place
invariant-loop-place l = (length l.table ≡ length l.initial.table) × (trades_of l.table ≡ over l.place (map (matured l.by) (trades_to l.initial.table l.place)) (trades_of l.initial.table))
