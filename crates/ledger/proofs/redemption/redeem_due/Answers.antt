use mathlib.Core.Path.{refl, ◌∙◌}
use native.Mathlib.Omega.{arith}
use Rattle.rules.specs.Trades.{matured}
use Rattle.ledger.proofs.RedemptionLaws.{none-changed, map-one-more}
use Rattle.ledger.proofs.redemption.redeem_due.Goals as goal

pub loop-place-init : goal.loop-place-init
loop-place-init c =
    (refl, none-changed _ _)

pub loop-place-preserved : goal.loop-place-preserved
loop-place-preserved c =
    let loop = c.loop-place in
    (c.redeem_one.auto.table ∙ loop.invariant.0, map-one-more (matured c.args.by) _ _ _ _ (omega (arith, c.requires)) loop.invariant.0 loop.invariant.1 c.redeem_one.ensures)
