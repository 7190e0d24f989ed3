use Rattle.std.specs.Prelude.{ℕ, pos}
use mathlib.Core.Path.{refl, sym, ap, ◌∙◌}
use native.Mathlib.Omega.{arith}
use Rattle.std.specs.Int.Signed.{lt_z}
use Rattle.money.specs.declared.units.Sheets.{Sheets}
use Rattle.rules.specs.Vault.{headroom_of}
use Rattle.ledger.proofs.SumLaws.{none-told}
use Rattle.ledger.proofs.StartLaws.{told-posted, told-short, term-short, none-due, not-posted, no-maturity, by-headroom}
use Rattle.ledger.proofs.next_term.next_term.Goals as goal

pub returns-then-sheets-eq0 : goal.returns-then-sheets-eq0
returns-then-sheets-eq0 c book met =
    let trade = c.args.trade in
    let matures = ap (λ (q : Sheets). q.0) c.maturing-sheets.ensures in
    rw (← none-due _ book _ _ met c.args.outstanding.0 trade (sym matures ∙ c.if-sheets-eq0.true)) refl

pub returns-in_err-posting : goal.returns-in_err-posting
returns-in_err-posting c book met =
    let trade = c.args.trade in
    let matures = ap (λ (q : Sheets). q.0) c.maturing-sheets.ensures in
    let none = none-told _ _ (c.in_err-posting.ensures) in
    c.from_residual.ensures ∙ rw (← not-posted _ book _ _ met c.args.outstanding.0 trade (λ z. c.if-sheets-eq0.false (matures ∙ z)) none) refl

pub overflow_cast-due : goal.overflow_cast-due
overflow_cast-due c =
    omega (arith, told-short c.args.held.now c.args.trade c.in_ok-posting.ensures refl c.requires.0.posted c.requires.1)

pub overflow_add-due : goal.overflow_add-due
overflow_add-due c =
    omega (arith, c.requires.0.day, told-short c.args.held.now c.args.trade c.in_ok-posting.ensures refl c.requires.0.posted c.requires.1)

pub returns-then-not-matures : goal.returns-then-not-matures
returns-then-not-matures c book met =
    let trade = c.args.trade in
    let matures = ap (λ (q : Sheets). q.0) c.maturing-sheets.ensures in
    let posted = told-posted c.args.held.now trade c.in_ok-posting.ensures refl in
    let late = rw posted.1 at (sym c.matures.ensures ∙ c.if-not-matures.true) in
    rw (← no-maturity _ book _ _ met c.args.outstanding.0 trade (λ z. c.if-sheets-eq0.false (matures ∙ z)) posted.0 late) refl

pub returns-then-above_headroom : goal.returns-then-above_headroom
returns-then-above_headroom c book met =
    let trade = c.args.trade in
    let matures = ap (λ (q : Sheets). q.0) c.maturing-sheets.ensures in
    let posted = told-posted c.args.held.now trade c.in_ok-posting.ensures refl in
    let found = rw posted.1 at (sym c.matures.ensures ∙ c.if-not-matures.false) in
    let asked = c.above_headroom.ensures ∙ ap (λ (n : ℕ). lt_z (headroom_of c.args.closing.size.0 c.args.closing.value.0 c.args.outstanding.0) (pos n)) matures in
    rw (← by-headroom _ book _ _ met c.args.outstanding.0 trade (λ z. c.if-sheets-eq0.false (matures ∙ z)) posted.0 (term-short c.args.held.now trade c.requires.0.posted c.requires.1) found _ asked, c.if-above_headroom.true) refl

pub returns : goal.returns
returns c book met =
    let trade = c.args.trade in
    let matures = ap (λ (q : Sheets). q.0) c.maturing-sheets.ensures in
    let posted = told-posted c.args.held.now trade c.in_ok-posting.ensures refl in
    let found = rw posted.1 at (sym c.matures.ensures ∙ c.if-not-matures.false) in
    let asked = c.above_headroom.ensures ∙ ap (λ (n : ℕ). lt_z (headroom_of c.args.closing.size.0 c.args.closing.value.0 c.args.outstanding.0) (pos n)) matures in
    rw (← by-headroom _ book _ _ met c.args.outstanding.0 trade (λ z. c.if-sheets-eq0.false (matures ∙ z)) posted.0 (term-short c.args.held.now trade c.requires.0.posted c.requires.1) found _ asked, c.if-above_headroom.false)
    (rw (c.maturing-sheets.ensures, posted.1, met.today, met.payment, met.postings) refl)
