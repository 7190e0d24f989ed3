use Rattle.std.specs.Prelude.{◌≡◌, ℕ, true, List, map}
use mathlib.Core.Path.{refl, sym, ap, subst, ◌∙◌}
use native.Mathlib.Omega.{arith}
use Rattle.rules.specs.Trades.{matured, over}
use Rattle.rules.specs.Fit.{trade_fit}
use Rattle.rules.specs.NextTerm.{starts, with_started}
use Rattle.ledger.specs.Types.{Trade}
use Rattle.ledger.specs.Flat.{trade_at, trades_to, trades_of}
use Rattle.ledger.proofs.RedemptionLaws.{kept-within}
use Rattle.ledger.proofs.FlatLaws.{all-below}
use Rattle.ledger.proofs.StartLaws.{all-matured, with-at-most, none-started, started-more, none-settled, trade-to-come, slot-more}
use Rattle.ledger.proofs.next_term.settle.Goals as goal

pub returns-in_default : goal.returns-in_default
returns-in_default c book met today =
    let trades = trades_to c.args.table.now c.args.count in
    let none = rw c.in_default.is at met in
    let stay = all-matured _ book none.none c.args.plan.outstanding.0 trades c.requires.1.within in
    c.redeem_due.ensures
    ∙ ap (λ (day : ℕ). over c.args.count (map (matured day) trades) (trades_of c.args.table.now)) today
    ∙ ap (λ (slots : List Trade). over c.args.count slots (trades_of c.args.table.now)) (sym stay)

pub loop-place-init : goal.loop-place-init
loop-place-init c =
    (refl, omega arith, λ book met. (none-started _ book _ _, none-settled _ book _ _))

pub settle_slot-sum-requires : goal.settle_slot-sum-requires
settle_slot-sum-requires c =
    let as_before : trade_at c.loop-place.table c.loop-place.place ≡ trade_at c.args.table.now c.loop-place.place = let some = rw c.in-Some.is at c.requires.0 in
    trade-to-come _ some.book _ _ _ _ c.loop-place.invariant.0 (c.loop-place.invariant.2 some.book some.met).1 (omega (arith, c.requires.1.room)) in
    let kept = c.requires.1 in (
      rw c.in-Some.is at c.requires.0,
      record {
        slot = omega (arith, kept.room, c.loop-place.invariant.0);
        fits = subst (λ (trade : Trade). trade_fit trade ≡ true) (sym as_before) (all-below _ _ _ _ c.loop-place-test.true kept.within);
      },
      omega (arith, c.loop-place.invariant.1, c.requires.2, kept.few),
    )

pub loop-place-preserved : goal.loop-place-preserved
loop-place-preserved c =
    let as_before : trade_at c.loop-place.table c.loop-place.place ≡ trade_at c.args.table.now c.loop-place.place = let some = rw c.in-Some.is at c.requires.0 in
    trade-to-come _ some.book _ _ _ _ c.loop-place.invariant.0 (c.loop-place.invariant.2 some.book some.met).1 (omega (arith, c.requires.1.room)) in
    let inv = c.loop-place.invariant in
    let some = rw c.in-Some.is at c.requires.0 in
    let trade = trade_at c.loop-place.table c.loop-place.place in
    let within = kept-within _ _ c.requires.1 c.loop-place.place c.loop-place-test.true in (
      c.settle_slot-sum.auto.table ∙ inv.0,
      omega (arith, inv.1, (c.settle_slot-sum.ensures some.book some.met).0, with-at-most (starts c.args.calendar.now some.book c.loop-place.sum.0 trade) some.book trade c.loop-place.sum.0, ap (λ (t : Trade). t.sheets.0) as_before, within.sheets),
      λ book met.
          let done = c.settle_slot-sum.ensures book met in
          let before = inv.2 book met in (
            started-more c.args.calendar.now book _ c.args.table.now c.loop-place.place c.loop-place.sum.0 _ before.0
                (done.0 ∙ ap (λ (t : Trade). with_started (starts c.args.calendar.now book c.loop-place.sum.0 t) book t c.loop-place.sum.0) as_before),
            slot-more c.args.calendar.now book _ c.args.table.now c.loop-place.table c.loop-place.place inv.0 before.1 _ c.loop-place.sum.0 (omega (arith, c.requires.1.room)) before.0 done.1,
          ),
    )
