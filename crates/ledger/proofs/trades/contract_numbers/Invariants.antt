use Rattle.ledger.proofs.PlaceLaws.{Numbered}
use Rattle.ledger.proofs.trades.contract_numbers.Given as goal

abbrev pub invariant-loop-place : goal.invariant-loop-place
invariant-loop-place l = Numbered l.table l.count l.numbers l.place
