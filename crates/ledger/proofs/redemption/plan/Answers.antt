use Rattle.std.specs.Prelude.{◌≡◌}
use mathlib.Core.Path.{sym, ap}
use native.Mathlib.Omega.{arith}
use borrow.Author.Rules.{rules}
use Rattle.money.specs.declared.units.Fen.{Fen}
use Rattle.money.specs.declared.units.Sheets.{Sheets}
use Rattle.rules.specs.Trades.{redeemed}
use Rattle.ledger.proofs.FlatLaws.{total-none, total-more}
use Rattle.ledger.proofs.RedemptionLaws.{begun-before, part-within}
use Rattle.ledger.proofs.redemption.plan.Goals as goal

pub loop-place-init : goal.loop-place-init
loop-place-init g c =
    (search rules, search rules, λ count_of price_of told. (sym (total-none count_of _), sym (total-none _ _)))

pub redeemed_for-paid-requires-clause-within : goal.redeemed_for-paid-requires-clause-within
redeemed_for-paid-requires-clause-within g c =
    let below = c.loop-place-test.true in
    let part = part-within _ _ _ c.requires.redeemable _ below _ (c.requires.within _ _ below (rw c.trade_at-trade.ensures at c.part.ensures)) in
    (part.0, part.1)

pub redeemed_for-paid-requires-clause-days : goal.redeemed_for-paid-requires-clause-days
redeemed_for-paid-requires-clause-days g c =
    rw c.trade_at-trade.ensures (begun-before _ _ _ c.requires.redeemable _ c.loop-place-test.true, c.requires.redeemable.term)

pub overflow_add-sheets : goal.overflow_add-sheets
overflow_add-sheets g c =
    let below = c.loop-place-test.true in
    let part = part-within _ _ _ c.requires.redeemable _ below _ (c.requires.within _ _ below (rw c.trade_at-trade.ensures at c.part.ensures)) in
    omega (arith, part.0, c.loop-place.invariant.0, c.requires.redeemable.kept.few)

pub overflow_add-amount : goal.overflow_add-amount
overflow_add-amount g c =
    let below = c.loop-place-test.true in
    let part = part-within _ _ _ c.requires.redeemable _ below _ (c.requires.within _ _ below (rw c.trade_at-trade.ensures at c.part.ensures)) in
    omega (arith, ap (λ (amount : Fen). amount.0) (rw c.trade_at-trade.ensures at c.redeemed_for-paid.ensures), part.2, c.loop-place.invariant.1, c.requires.redeemable.kept.few)

pub loop-place-preserved : goal.loop-place-preserved
loop-place-preserved g c =
    let here = c.loop-place in
    let below = c.loop-place-test.true in
    let part = part-within _ _ _ c.requires.redeemable _ below _ (c.requires.within _ _ below (rw c.trade_at-trade.ensures at c.part.ensures)) in
    let paid = rw c.trade_at-trade.ensures at c.redeemed_for-paid.ensures in (
      omega (arith, part.0, here.invariant.0),
      omega (arith, ap (λ (amount : Fen). amount.0) paid, part.2, here.invariant.1),
      λ count_of price_of told.
          let this = told _ _ below (rw c.trade_at-trade.ensures at c.part.ensures) in
          let sums = here.invariant.2 count_of price_of told in (
            omega (arith, sums.0, ap (λ (q : Sheets). q.0) this.0, total-more count_of c.args.table.now here.place),
            omega (
              arith,
              sums.1,
              ap (λ (amount : Fen). amount.0) (rw (this.0, this.1) at paid),
              total-more (λ trade. redeemed c.args.payment (count_of trade) (price_of trade) trade) c.args.table.now here.place,
            ),
          ),
    )

pub returns : goal.returns
returns g c count_of price_of told =
    let e : c.loop-place.place ≡ c.args.count = omega arith in
    let sums = c.loop-place.invariant.2 count_of price_of told in
    rw (sums.0, sums.1, e)
