use Rattle.std.specs.Prelude.{◌≡◌}
use mathlib.Core.Path.{ap, ◌∙◌}
use native.Mathlib.Omega.{arith}
use Rattle.money.specs.declared.units.Sheets.{Sheets}
use Rattle.rules.specs.NextTerm.{starts, with_started}
use Rattle.ledger.specs.Types.{Book}
use Rattle.ledger.specs.Flat.{trade_at}
use Rattle.ledger.specs.NextTerm.{Meets}
use Rattle.ledger.proofs.RedemptionLaws.{kept-within}
use Rattle.ledger.proofs.FlatLaws.{all-below}
use Rattle.ledger.proofs.StartLaws.{next-few, with-next, with-none, with-at-most, none-started, started-more}
use Rattle.ledger.proofs.next_term.outstanding_after.Goals.{in-Some-next_term, in_default-next_term}
use Rattle.ledger.proofs.next_term.outstanding_after.Goals as goal

pub loop-place-init : goal.loop-place-init
loop-place-init c =
    (omega arith, λ book met. none-started _ book _ _)

pub next_term-requires : goal.next_term-requires
next_term-requires c =
    let kept = c.requires.1 in
    (rw c.in-Some.is at c.requires.0, rw c.trade_at-trade.ensures (all-below _ _ _ _ c.loop-place-test.true kept.within))

pub overflow_add-sum : goal.overflow_add-sum
overflow_add-sum c =
    let some = rw c.in-Some.is at c.requires.0 in
    let trade = trade_at c.args.table.now c.loop-place.place in
    let within = kept-within _ _ c.requires.1 c.loop-place.place c.loop-place-test.true in
    omega (
      arith,
      next-few _ some.book c.loop-place.sum.0 trade _ (rw c.trade_at-trade.ensures at (c.in-Some-next_term.ensures some.book some.met)),
      within.sheets,
      c.loop-place.invariant.0,
      c.requires.2,
      c.requires.1.few,
    )

pub loop-place-preserved : goal.loop-place-preserved
loop-place-preserved c =
    let some = rw c.in-Some.is at c.requires.0 in
    let sum = c.loop-place.sum.0 in
    let trade = trade_at c.args.table.now c.loop-place.place in
    let with-it : (book : Book) → Meets c.args.calendar.now book c.in-Some.closing c.args.held.now → c.match-next_term.sum.0 ≡ with_started (starts c.args.calendar.now book sum trade) book trade sum =
    elim c.match-next_term.branch [
      | in-Some-next_term w ↦ λ book met. ap (λ (q : Sheets). q.0) w.sum-is ∙ with-next _ book sum trade _ (rw c.trade_at-trade.ensures at (w.in-Some-next_term.ensures book met))
      | in_default-next_term w ↦ λ book met. ap (λ (q : Sheets). q.0) w.sum-is ∙ with-none _ book sum trade (rw c.trade_at-trade.ensures at (w.in_default-next_term.ensures book met))
    ] in
    let within = kept-within _ _ c.requires.1 c.loop-place.place c.loop-place-test.true in (
      omega (arith, c.loop-place.invariant.0, with-it some.book some.met, with-at-most (starts c.args.calendar.now some.book sum trade) some.book trade sum, within.sheets),
      λ book met. started-more _ book _ _ _ _ _ (c.loop-place.invariant.1 book met) (with-it book met),
    )

pub trade_at-trade-requires : goal.trade_at-trade-requires
trade_at-trade-requires c =
    omega (arith, c.requires.1.room)
