use Rattle.std.specs.Prelude.{◌-◌, set}
use mathlib.Core.Path.{refl, ap, ◌∙◌}
use native.Mathlib.Omega.{arith}
use borrow.Author.Tests.{ltb-false}
use Rattle.rules.specs.Trades.{with_sheets}
use Rattle.rules.specs.Early.{early_causes, early_book, early_table}
use Rattle.ledger.specs.Flat.{trade_at, trades_of}
use Rattle.ledger.proofs.Groups.{group-applies, group-passes, group-clear}
use Rattle.ledger.proofs.Refusing.{no_rows, turned_down, carried_out}
use Rattle.ledger.proofs.NetLaws.{within-limit}
use Rattle.ledger.proofs.FitFacts.{fit-keeps, fit-net}
use Rattle.ledger.proofs.ContractLaws.{take-off-here}
use Rattle.ledger.proofs.EarlyLaws.{has-to-take, has-room}
use Rattle.ledger.proofs.early.early.Goals as goal

pub returns-in_err-order_refusal : goal.returns-in_err-order_refusal
unfolding early_causes
returns-in_err-order_refusal c rows =
    let said = group-applies _ _ (c.in_err-order_refusal.ensures rows) in
    (turned_down _ _ rows _ _ _ _ c.from_residual.ensures.1 said refl, rw (← said) refl)

pub named_place-requires : goal.named_place-requires
named_place-requires c = (fit-keeps _ _ _ c.requires.fits).room

pub returns-in_err-place : goal.returns-in_err-place
unfolding early_causes
returns-in_err-place c rows =
    let said = group-passes _ _ (c.in_ok-order_refusal.ensures rows) (group-applies _ _ (c.in_err-place.ensures.refused rows)) in
    (turned_down _ _ rows _ _ _ _ c.from_residual-in_err-place.ensures.1 said refl, rw (← said) refl)

pub early_amount-requires : goal.early_amount-requires
early_amount-requires c =
    record { book = c.requires; below = c.in_ok-place.ensures.place.below; cheap = ltb-false _ _ (group-clear _ (c.in_ok-order_refusal.ensures no_rows) 8) }

pub returns-in_err-amount : goal.returns-in_err-amount
unfolding early_causes
returns-in_err-amount c rows =
    let told = c.in_err-amount.ensures rows c.args.contract c.in_ok-place.ensures.place in
    let said = group-passes _ _ (c.in_ok-order_refusal.ensures rows) (group-passes _ _ (c.in_ok-place.ensures.refused rows) told.0) in
    (turned_down _ _ rows _ _ _ _ c.from_residual-in_err-amount.ensures.1 said refl, rw (← said) refl)

pub sheets_at-requires : goal.sheets_at-requires
sheets_at-requires c =
    omega (arith, c.in_ok-place.ensures.place.below, (fit-keeps _ _ _ c.requires.fits).room)

pub overflow_sub-left : goal.overflow_sub-left
overflow_sub-left c =
    let stands = c.in_ok-place.ensures.place in
    omega (arith, c.sheets_at.ensures, has-to-take _ c.args.scalars no_rows _ _ _ _ (c.in_ok-amount.ensures no_rows _ stands).0 (fit-keeps _ _ _ c.requires.fits) stands)

pub put_sheets-requires : goal.put_sheets-requires
put_sheets-requires c =
    omega (arith, c.in_ok-place.ensures.place.below, (fit-keeps _ _ _ c.requires.fits).room)

pub plus-requires : goal.plus-requires
plus-requires c =
    (omega (arith, within-limit c.args.scalars.nets.today.0 (fit-net _ _ _ c.requires.fits)), (c.in_ok-amount.ensures no_rows c.args.contract c.in_ok-place.ensures.place).1.1)

pub returns : goal.returns
unfolding early_causes early_book early_table
returns c rows =
    let a = c.args in
    let stands = c.in_ok-place.ensures.place in
    let taken = c.in_ok-amount.ensures rows a.contract stands in
    let none-applies = group-passes _ _ (c.in_ok-order_refusal.ensures rows) (group-passes _ _ (c.in_ok-place.ensures.refused rows) taken.0) in
    let trade = trade_at a.table.now c.in_ok-place.place in
    let written = c.put_sheets.ensures ∙ ap (λ n. set (trades_of a.table.now) c.in_ok-place.place (with_sheets (n - a.count.0) trade)) c.sheets_at.ensures in
    let room = has-room _ a.scalars rows _ _ _ _ taken.0 in (
      carried_out _ _ rows _ _ none-applies c.accepted.ensures (rw (c.plus.ensures, c.with_unpaid.ensures, c.today_plus.ensures, taken.1.0, room)),
      rw (← none-applies) (written ∙ take-off-here _ _ _ _ (fit-keeps _ _ _ c.requires.fits).room stands a.count.0),
    )
