use Rattle.std.specs.Prelude.{◌≡◌, suc, ◌-◌}
use mathlib.Core.Path.{sym, ◌∙◌}
use native.Mathlib.Omega.{arith}
use Rattle.rules.specs.Trades.{same}
use Rattle.ledger.specs.Flat.{trade_at}
use Rattle.ledger.proofs.ChainLaws.{ahead-next}
use Rattle.ledger.proofs.chains.look_along.Goals as goal

pub loop-preserved : goal.loop-preserved
loop-preserved c =
    let here = c.loop in
    let tested : (let s = c.args in same (trade_at s.table.now (here.link - 1)).contract s.contract ≡ c.eq.result) = sym (rw c.contract_at.ensures at c.eq.ensures) in
    let link : here.link ≡ suc (here.link - 1) = omega (arith, c.if-link-eq0.false) in
    let down = c.requires.2 (here.link - 1) (omega (arith, here.invariant.0, c.if-link-eq0.false)) in
    rw c.from-link.ensures (omega (arith, down, here.invariant.0), ahead-next _ _ _ _ _ _ link here.invariant.1 (tested ∙ c.if-eq.false))
