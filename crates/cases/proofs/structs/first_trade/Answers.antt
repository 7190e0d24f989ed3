use Rattle.std.specs.Prelude.{◌≡◌, ℕ, ◌+◌, List, get_or}
use mathlib.Core.Path.{refl, ap, ◌∙◌}
use native.Mathlib.Omega.{arith}
use borrow.Author.Tests.{eq-eqb}
use Rattle.rules.specs.Trades.{no_trade}
use Rattle.rules.specs.declared.trade.Trade.{Trade}
use Rattle.cases.specs.declared.structs.Ledger.{Ledger}
use Rattle.cases.proofs.LedgerLaws.{reached, onward, accepted, asked, first_slot}
use Rattle.cases.proofs.structs.first_trade.Goals as goal

pub loop-event-init : goal.loop-event-init
unfolding reached
loop-event-init c =
    record { few = omega arith; book-is = c.fresh-book.ensures; table_is = refl }

pub expect-requires : goal.expect-requires
expect-requires c =
    let stepped : c.apply-next.result ≡ reached (c.loop-event.event-index + 1) = let now = c.loop-event in
    c.apply-next.ensures ∙ onward now.event-index _ _ now.invariant in
    eq-eqb _ 0 (ap (λ (r : Ledger). r.answer.number) stepped ∙ accepted c.loop-event.event-index c.loop-event-test.true)

pub loop-event-preserved : goal.loop-event-preserved
loop-event-preserved c =
    let stepped : c.apply-next.result ≡ reached (c.loop-event.event-index + 1) = let now = c.loop-event in
    c.apply-next.ensures ∙ onward now.event-index _ _ now.invariant in
    record { few = omega arith; book-is = ap (λ (r : Ledger). r.book) stepped; table_is = ap (λ (r : Ledger). r.table) stepped }

pub expect-requires-2 : goal.expect-requires-2
expect-requires-2 c =
    let slot : get_or c.loop-event.table 0 no_trade ≡ asked = let now = c.loop-event in
    let all : now.event-index ≡ 8 = omega (arith, now.invariant.few, c.loop-event-test.false) in
    ap (λ (t : List Trade). get_or t 0 no_trade) now.invariant.table_is ∙ ap (λ (k : ℕ). get_or (reached k).table 0 no_trade) all ∙ first_slot in
    eq-eqb _ 7 (ap (λ (t : Trade). t.contract.0) slot)

pub expect-requires-3 : goal.expect-requires-3
expect-requires-3 c =
    let slot : get_or c.loop-event.table 0 no_trade ≡ asked = let now = c.loop-event in
    let all : now.event-index ≡ 8 = omega (arith, now.invariant.few, c.loop-event-test.false) in
    ap (λ (t : List Trade). get_or t 0 no_trade) now.invariant.table_is ∙ ap (λ (k : ℕ). get_or (reached k).table 0 no_trade) all ∙ first_slot in
    eq-eqb _ 100 (ap (λ (t : Trade). t.sheets.0) slot)

pub expect-requires-4 : goal.expect-requires-4
expect-requires-4 c =
    let slot : get_or c.loop-event.table 0 no_trade ≡ asked = let now = c.loop-event in
    let all : now.event-index ≡ 8 = omega (arith, now.invariant.few, c.loop-event-test.false) in
    ap (λ (t : List Trade). get_or t 0 no_trade) now.invariant.table_is ∙ ap (λ (k : ℕ). get_or (reached k).table 0 no_trade) all ∙ first_slot in
    eq-eqb _ 3 (ap (λ (t : Trade). t.first) slot)

pub expect-requires-5 : goal.expect-requires-5
expect-requires-5 c =
    let slot : get_or c.loop-event.table 0 no_trade ≡ asked = let now = c.loop-event in
    let all : now.event-index ≡ 8 = omega (arith, now.invariant.few, c.loop-event-test.false) in
    ap (λ (t : List Trade). get_or t 0 no_trade) now.invariant.table_is ∙ ap (λ (k : ℕ). get_or (reached k).table 0 no_trade) all ∙ first_slot in
    eq-eqb _ 4 (ap (λ (t : Trade). t.due) slot)
