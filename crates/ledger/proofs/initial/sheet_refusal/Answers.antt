use native.Mathlib.Omega.{arith}
use Rattle.money.specs.Money.{principal}
use Rattle.ledger.proofs.NetLaws.{within-limit}
use Rattle.ledger.proofs.FitFacts.{fit-net}
use Rattle.ledger.proofs.initial.sheet_refusal.Goals as goal

pub less-requires : goal.less-requires
unfolding principal
less-requires c =
    (omega (arith, within-limit c.args.scalars.nets.today.0 (fit-net _ _ _ c.requires.0.book.fits)), rw c.principal_of.ensures (omega arith))
