use native.Mathlib.Omega.{arith}
use Rattle.rules.proofs.FitParts.{cash-fits}
use Rattle.ledger.proofs.figures.revalued.Goals as goal

pub value_of-requires : goal.value_of-requires
value_of-requires c =
    let cash = cash-fits _ _ c.requires.1 in
    (c.requires.0, cash.free, omega (arith, cash.sum))
