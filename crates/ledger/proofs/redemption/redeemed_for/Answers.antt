use Rattle.std.specs.Prelude.{◌≡◌, ◌-◌, Ok, is_ok}
use mathlib.Core.Path.{sym, ap}
use native.Mathlib.Omega.{arith}
use Rattle.money.specs.Money.{redemption}
use Rattle.money.specs.Units.{fen}
use Rattle.money.proofs.Answers.{redemption_within}
use Rattle.money.proofs.Bounds.{no-sheets}
use Rattle.ledger.proofs.redemption.redeemed_for.Goals as goal

pub returns-then-count-eq0 : goal.returns-then-count-eq0
returns-then-count-eq0 c =
    ap fen (sym (no-sheets _ _ _ c.if-count-eq0.true))

pub unwrap-requires : goal.unwrap-requires
unwrap-requires c =
    ap is_ok (redemption_within _ _ _ _ c.requires.within.0 c.requires.within.1 (omega (arith, c.requires.days.1)) c.redemption.ensures)

pub returns : goal.returns
returns c =
    let told : c.redemption.result ≡ Ok (redemption c.args.count c.args.price (c.args.payment - c.args.trade.first)) = redemption_within _ _ _ _ c.requires.within.0 c.requires.within.1 (omega (arith, c.requires.days.1)) c.redemption.ensures in
    cc
