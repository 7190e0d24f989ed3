use Rattle.std.specs.Prelude.{◌≡◌, not, pos, ◌+ℤ◌}
use native.Mathlib.Omega.{arith}
use mathlib.Core.Option.{some}
use Rattle.money.specs.Causes.{first_of}
use mathlib.Core.Path.{refl, sym, ap, ◌∙◌}
use borrow.Author.Tests.{not-true, not-false}
use Rattle.money.specs.declared.units.Fen.{Fen}
use Rattle.money.specs.Units.{signed_fen}
use Rattle.money.specs.declared.units.SignedFen.{SignedFen}
use Rattle.rules.specs.Unpaid.{cleared_plus}
use Rattle.rules.specs.Open.{open_causes, opened_table}
use Rattle.rules.proofs.FitParts.{fit_parts}
use Rattle.scalars.specs.Scalars.{with_unpaid, unless_past}
use Rattle.scalars.proofs.UnpaidLaws.{not-past}
use Rattle.ledger.specs.Types.{Unpaid, Nets}
use Rattle.ledger.specs.Flat.{book_of, trades_of}
use Rattle.ledger.proofs.Refusing.{carried_out}
use Rattle.ledger.proofs.FitFacts.{fit-in-use, fit-keeps}
use Rattle.ledger.proofs.RedemptionLaws.{all-due}
use Rattle.ledger.proofs.OpenLaws.{terminated-book, net-past, unpaid-past, none-within-limits, net-tested, unpaid-tested}
use Rattle.ledger.proofs.open.terminated.Goals.{then-not-is_fit-via-then-not-is_fit, then-not-is_fit-via-else-not-is_fit+then-passes}
use Rattle.ledger.proofs.open.terminated.Goals as goal

joins : (nets : Nets) (amount : Fen) {cleared : SignedFen} → cleared ≡ signed_fen (nets.cleared.0 +ℤ pos amount.0)
    → ◌≡◌ {A = Nets} (record { today = nets.today; cleared = cleared }) (record { today = nets.today; cleared = signed_fen (nets.cleared.0 +ℤ pos amount.0) })
joins nets amount e = rw e

pub plus-cleared-requires : goal.plus-cleared-requires
plus-cleared-requires c =
    let f = fit_parts c.args.calendar.now (book_of c.args.scalars c.requires.opening.book.rows) (trades_of c.args.table.now) c.requires.opening.book.fits in
    (omega (arith, f.nets.cleared), c.fallback_sum-amount.ensures.1)

pub returns-then-not-is_fit : goal.returns-then-not-is_fit
returns-then-not-is_fit c rows =
    let calendar = c.args.calendar.now in
    let book = book_of c.args.scalars rows in
    let table = trades_of c.args.table.now in
    let amount = c.fallback_sum-amount.ensures.0 rows in
    let closed = c.requires.closed in
    let follows = c.requires.opening.follows in
    let net = net-tested calendar book table _ amount (joins c.args.scalars.nets c.fallback_sum-amount.result c.plus-cleared.ensures) c.is_fit.ensures in
    let e : first_of (open_causes calendar book table) ≡ some 14 =
    elim c.then-not-is_fit.branch [
      | then-not-is_fit-via-then-not-is_fit w ↦ net-past calendar book table closed follows c.requires.ended (net ∙ not-true _ (ap not w.if-not-is_fit.true))
      | then-not-is_fit-via-else-not-is_fit+then-passes w ↦ unpaid-past calendar book table closed follows c.requires.ended (unpaid-tested calendar book table _ amount w.passes.ensures ∙ w.if-passes.true)
    ] in
    (rw e refl, rw e refl, sym e)

pub redeem_due-requires : goal.redeem_due-requires
redeem_due-requires c =
    (fit-keeps c.args.calendar.now (book_of c.args.scalars c.requires.opening.book.rows) c.args.table.now c.requires.opening.book.fits).room

pub returns : goal.returns
unfolding opened_table
returns c rows =
    let book = book_of c.args.scalars rows in
    let amount = c.fallback_sum-amount.ensures.0 rows in
    let calendar = c.args.calendar.now in
    let table = c.args.table.now in
    let ended = c.requires.ended in
    let net = net-tested _ book _ _ amount (joins c.args.scalars.nets c.fallback_sum-amount.result c.plus-cleared.ensures) c.is_fit.ensures ∙ not-false _ (ap not c.if-not-is_fit.false) in
    let within = unpaid-tested _ book _ _ amount c.passes.ensures ∙ c.if-passes.false in
    let e = none-within-limits calendar book (trades_of table) c.requires.closed c.requires.opening.follows ended net within in
    let nets = c.args.scalars.nets in
    let unpaid = c.args.scalars.sums.unpaid in
    let cleared = joins c.args.scalars.nets c.fallback_sum-amount.result c.plus-cleared.ensures ∙ ap (λ (amount : Fen). record { today = nets.today; cleared = signed_fen (nets.cleared.0 +ℤ pos amount.0) }) amount in
    let owed = c.cleared_plus.ensures ∙ ap (λ (amount : Fen). unless_past amount.0 unpaid (cleared_plus amount.0 unpaid)) amount ∙ not-past unpaid _ _ within in
    let owing = c.with_unpaid.ensures ∙ ap (λ (unpaid : Unpaid). with_unpaid unpaid c.args.scalars) owed in (
      carried_out _ _ rows _ _ (sym e) c.accepted.ensures (terminated-book calendar c.args.scalars c.with_unpaid.result rows (trades_of table) (record { today = c.args.scalars.nets.today; cleared = c.plus-cleared.result }) c.args.after ended c.requires.opening.opened cleared owing),
      c.redeem_due.ensures ∙ rw (e, ended, fit-in-use calendar (book_of c.args.scalars c.requires.opening.book.rows) table c.requires.opening.book.fits, all-due table c.args.scalars.trades),
      sym e,
    )
