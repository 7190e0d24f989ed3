use Rattle.std.specs.Prelude.{◌≡◌, ◌<◌, ◌≤◌, true, nat_abs, ltb, pos, ◌+ℤ◌, ◌||◌}
use mathlib.Core.Path.{refl, sym, ◌∙◌}
use native.Mathlib.Omega.{arith}
use borrow.Author.Tests.{le-ltb, lt-ltb}
use Rattle.money.specs.Causes.{first_of}
use Rattle.rules.specs.Limits.{net_limit}
use Rattle.rules.specs.Unpaid.{passes}
use Rattle.ledger.specs.Flat.{trade_at}
use Rattle.ledger.proofs.Column.{first_holds, second_holds}
use Rattle.ledger.proofs.NetLaws.{within-limit, over-net, within-net}
use Rattle.ledger.proofs.FitFacts.{fit-net}
use Rattle.ledger.proofs.RedemptionLaws.{begun-before}
use Rattle.ledger.proofs.ContractLaws.{trade-here}
use Rattle.ledger.proofs.EarlyLaws.{running-keeps, running-redeemable, few-to-take, running-at-most}
use Rattle.ledger.proofs.early.early_amount.Goals.{then-not-is_fit-via-then-not-is_fit, then-not-is_fit-via-else-not-is_fit+then-passes}
use Rattle.ledger.proofs.early.early_amount.Goals as goal

pub trade_at-trade-requires : goal.trade_at-trade-requires
trade_at-trade-requires c =
    omega (arith, (running-keeps c.requires).room)

pub returns-then-lt : goal.returns-then-lt
unfolding first_of
returns-then-lt c rows contract stands =
    let short : (trade_at c.args.table.now c.args.place).sheets.0 < c.args.count.0 = grind arith in
    (rw (trade-here _ _ _ _ (running-keeps c.requires).room stands, lt-ltb _ _ short) refl, tt)

pub redeemed_for-amount-requires-clause-within : goal.redeemed_for-amount-requires-clause-within
redeemed_for-amount-requires-clause-within c =
    let enough : c.args.count.0 ≤ (trade_at c.args.table.now c.args.place).sheets.0 = grind arith in
    (few-to-take c.requires _ enough, c.requires.cheap)

pub redeemed_for-amount-requires-clause-days : goal.redeemed_for-amount-requires-clause-days
redeemed_for-amount-requires-clause-days c =
    rw (c.payment_day-payment.ensures, c.trade_at-trade.ensures) (begun-before _ _ _ (running-redeemable c.requires) _ c.requires.below, (running-redeemable c.requires).term)

pub plus-requires : goal.plus-requires
plus-requires c =
    let enough : c.args.count.0 ≤ (trade_at c.args.table.now c.args.place).sheets.0 = grind arith in
    let redeemed = rw c.trade_at-trade.ensures at c.redeemed_for-amount.ensures in
    (omega (arith, within-limit c.args.scalars.nets.today.0 (fit-net _ _ _ c.requires.book.fits)), rw (redeemed, c.payment_day-payment.ensures) (running-at-most c.requires _ enough))

pub returns-then-not-is_fit : goal.returns-then-not-is_fit
unfolding first_of
returns-then-not-is_fit c rows contract stands =
    let enough : c.args.count.0 ≤ (trade_at c.args.table.now c.args.place).sheets.0 = grind arith in
    let redeemed = rw c.trade_at-trade.ensures at c.redeemed_for-amount.ensures in
    let amount = c.redeemed_for-amount.result.0 in
    let unpaid = c.args.scalars.sums.unpaid in
    let net = c.args.scalars.nets.today.0 +ℤ pos amount in
    let outside = rw c.plus.ensures at (sym c.is_fit.ensures) in
    let past : (ltb net_limit (nat_abs (c.args.scalars.nets.today.0 +ℤ pos amount)) || passes amount unpaid) ≡ true =
    elim c.then-not-is_fit.branch [
      | then-not-is_fit-via-then-not-is_fit w ↦ first_holds (passes amount unpaid) (over-net net (outside ∙ w.if-not-is_fit.true))
      | then-not-is_fit-via-else-not-is_fit+then-passes w ↦ second_holds _ (sym w.passes.ensures ∙ w.if-passes.true)
    ] in
    let told = rw (redeemed, c.payment_day-payment.ensures) at past in
    (rw (trade-here _ _ _ _ (running-keeps c.requires).room stands, le-ltb _ _ enough, told) refl, tt)

pub returns : goal.returns
unfolding first_of
returns c rows contract stands =
    let enough : c.args.count.0 ≤ (trade_at c.args.table.now c.args.place).sheets.0 = grind arith in
    let redeemed = rw c.trade_at-trade.ensures at c.redeemed_for-amount.ensures in
    let trade = trade-here _ _ _ _ (running-keeps c.requires).room stands in
    let net = rw (redeemed, c.payment_day-payment.ensures) at (within-net (c.args.scalars.nets.today.0 +ℤ pos c.redeemed_for-amount.result.0) (rw c.plus.ensures at (sym c.is_fit.ensures ∙ c.if-not-is_fit.false))) in
    let unpaid = rw (redeemed, c.payment_day-payment.ensures) at (sym c.passes.ensures ∙ c.if-passes.false) in (
      rw (trade, le-ltb _ _ enough, net, unpaid) refl,
      rw (trade, redeemed, c.payment_day-payment.ensures) (refl, running-at-most c.requires _ enough),
    )
