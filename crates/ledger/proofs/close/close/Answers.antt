use Rattle.std.specs.Prelude.{◌≡◌, not, nat_abs, pos, ◌+ℤ◌, ◌-ℤ◌}
use Rattle.money.specs.declared.units.SignedFen.{SignedFen}
use Rattle.money.specs.Units.{signed_fen}
use mathlib.Core.Path.{ap, ◌∙◌}
use native.Mathlib.Omega.{arith}
use borrow.Author.Tests.{le-leb}
use Rattle.money.specs.declared.units.Fen.{Fen}
use Rattle.money.specs.declared.refusal.Refusal.TheVariants.{WrongPhase, PastLimit}
use Rattle.rules.specs.Limits.{net_limit}
use Rattle.rules.specs.Unpaid.{today_plus, joined}
use Rattle.rules.proofs.FitParts.{fit_parts, fit-withdrawals, fit-securities, fits-cash, fit-postings}
use Rattle.scalars.specs.Scalars.{unless_past}
use Rattle.scalars.proofs.UnpaidLaws.{not-past}
use Rattle.ledger.specs.Types.{Book, Nets}
use Rattle.ledger.specs.Flat.{trades_of, rows_of, book_of}
use Rattle.ledger.proofs.FitFacts.{fit-keeps}
use Rattle.ledger.proofs.Column.{asked, asked-not, denied, denied-not}
use Rattle.ledger.proofs.Fitting.{refuted, upheld}
use Rattle.ledger.proofs.StartLaws.{renewable-where}
use Rattle.ledger.proofs.CloseLaws.{close-refused, not-now, today-outside, cleared-outside, unpaid-past, may-be-closed, net-at-close, today-asked, all-joined, cleared-asked, unpaid-asked}
use Rattle.ledger.proofs.NetLaws.{size-of-sum}
use Rattle.ledger.proofs.close.close.Goals as goal

at-close : (nets : Nets) (matured started : Fen) {with_matured today : SignedFen} → with_matured ≡ signed_fen (nets.today.0 +ℤ pos matured.0) → today ≡ signed_fen (with_matured.0 -ℤ pos started.0)
    → ◌≡◌ {A = Nets} (record { today = today; cleared = nets.cleared }) (record { today = signed_fen (nets.today.0 +ℤ pos matured.0 -ℤ pos started.0); cleared = nets.cleared })
at-close nets matured started m t =
    ap (λ (today : SignedFen). record { today = today; cleared = nets.cleared }) (t ∙ ap (λ (net : SignedFen). signed_fen (net.0 -ℤ pos started.0)) m)

pub returns-then-not-may_close : goal.returns-then-not-may_close
returns-then-not-may_close c =
    close-refused _ _ _ _ _ WrongPhase (not-now _ _ _ (denied c.may_close.ensures (ap not c.if-not-may_close.true)))

pub plus-requires : goal.plus-requires
plus-requires c =
    let within = c.plan_of-plan.ensures.1 in
    let nets = (fit_parts _ _ _ c.requires.book.fits).nets in
    (omega (arith, nets.today), within.amount)

pub less-today-requires : goal.less-today-requires
less-today-requires c =
    let net = c.args.scalars.nets.today.0 in
    let within = c.plan_of-plan.ensures.1 in
    let nets = (fit_parts _ _ _ c.requires.book.fits).nets in
    (rw c.plus.ensures (omega (arith, size-of-sum net (pos c.plan_of-plan.result.amount.0), nets.today, within.amount)), within.started)

pub returns-then-not-is_fit : goal.returns-then-not-is_fit
returns-then-not-is_fit c =
    let may-go-on = denied-not c.may_close.ensures (ap not c.if-not-may_close.false) in
    let today = today-asked c.plan_of-plan.ensures.0 (at-close c.args.scalars.nets c.plan_of-plan.result.amount c.plan_of-plan.result.started c.plus.ensures c.less-today.ensures) c.is_fit.ensures in
    close-refused _ _ _ _ _ PastLimit (today-outside _ _ _ may-go-on (refuted today (ap not c.if-not-is_fit.true)))

pub joined-cleared-requires : goal.joined-cleared-requires
joined-cleared-requires c =
    let net = net-at-close c.plan_of-plan.ensures.0 (at-close c.args.scalars.nets c.plan_of-plan.result.amount c.plan_of-plan.result.started c.plus.ensures c.less-today.ensures) in
    let nets = (fit_parts _ _ _ c.requires.book.fits).nets in
    (upheld c.is_fit.ensures (ap not c.if-not-is_fit.false), le-leb (nat_abs c.args.scalars.nets.cleared.0) net_limit nets.cleared)

pub returns-then-not-is_fit-2 : goal.returns-then-not-is_fit-2
returns-then-not-is_fit-2 c =
    let may-go-on = denied-not c.may_close.ensures (ap not c.if-not-may_close.false) in
    let cleared = cleared-asked c.plan_of-plan.ensures.0 (at-close c.args.scalars.nets c.plan_of-plan.result.amount c.plan_of-plan.result.started c.plus.ensures c.less-today.ensures) c.joined-cleared.ensures c.is_fit-2.ensures in
    close-refused _ _ _ _ _ PastLimit (cleared-outside _ _ _ may-go-on (refuted cleared (ap not c.if-not-is_fit-2.true)))

pub returns-then-passes : goal.returns-then-passes
returns-then-passes c =
    let may-go-on = denied-not c.may_close.ensures (ap not c.if-not-may_close.false) in
    close-refused _ _ _ _ _ PastLimit (unpaid-past _ _ _ may-go-on (asked (unpaid-asked c.plan_of-plan.ensures.0 c.passes.ensures) c.if-passes.true))

pub closed-requires : goal.closed-requires
closed-requires c =
    let book : Book = book_of c.args.scalars (rows_of c.args.held.now c.args.kinds.now c.args.units.now) in
    let plan = c.plan_of-plan.ensures in
    let fits = fit_parts c.args.calendar.now book (trades_of c.args.table.now) c.requires.book.fits in (
      record {
        withdrawals = fit-withdrawals book.withdrawals fits.withdrawals;
        securities = fit-securities book.vault fits.securities;
        cash = fits-cash c.args.scalars.cash c.args.scalars.guarantee fits.cash;
      },
      renewable-where _ book _ _ plan.0.met c.requires.book.few (fit-postings book.postings fits.postings) (omega (arith, plan.0.today, plan.1.day)),
      fit-keeps c.args.calendar.now book c.args.table.now c.requires.book.fits,
      plan.1.outstanding,
    )

pub returns : goal.returns
returns c =
    let plan = c.plan_of-plan.ensures.0 in
    let net = (at-close c.args.scalars.nets c.plan_of-plan.result.amount c.plan_of-plan.result.started c.plus.ensures c.less-today.ensures) in
    let join = c.joined-cleared.ensures in
    let may-go-on = denied-not c.may_close.ensures (ap not c.if-not-may_close.false) in
    let today = upheld (today-asked plan net c.is_fit.ensures) (ap not c.if-not-is_fit.false) in
    let cleared = upheld (cleared-asked plan net join c.is_fit-2.ensures) (ap not c.if-not-is_fit-2.false) in
    let unpaid = c.args.scalars.sums.unpaid in
    let within = asked-not (unpaid-asked plan c.passes.ensures) c.if-passes.false in
    let owed = c.joined_with-unpaid.ensures ∙ ap (λ (amount : Fen). unless_past amount.0 unpaid (joined (today_plus amount.0 unpaid))) plan.amount ∙ not-past unpaid _ _ within in
    rw (may-be-closed _ _ _ may-go-on today cleared within) (c.closed.ensures plan (all-joined plan net join) owed)
