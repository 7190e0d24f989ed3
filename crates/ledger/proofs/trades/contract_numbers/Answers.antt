use native.Mathlib.Omega.{arith}
use Rattle.ledger.proofs.PlaceLaws.{none-numbered, next-numbered}
use Rattle.ledger.proofs.trades.contract_numbers.Goals as goal

pub loop-place-init : goal.loop-place-init
loop-place-init c =
    none-numbered _ _ _ c.requires.1

pub loop-place-preserved : goal.loop-place-preserved
loop-place-preserved c =
    next-numbered _ _ _ _ c.loop-place.invariant (omega (arith, c.requires.1)) _ c.contract_at.ensures
