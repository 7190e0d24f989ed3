use Rattle.std.specs.Prelude.{◌≡◌, true}
use Rattle.std.proofs.lemmas.Result.{err_from_is_err_and}
use mathlib.Core.Path.{refl, sym, ◌∙◌}
use native.Mathlib.Omega.{arith}
use borrow.Author.Tests.{ltb-false}
use Rattle.money.proofs.TwoTests.{both}
use Rattle.rules.specs.Fit.{net_fit, nets_fit}
use Rattle.rules.proofs.FitParts.{cash-fits}
use Rattle.ledger.specs.Types.{Nets}
use Rattle.ledger.proofs.pay.pay.Goals as goal

cleared-fits : (nets : Nets) → nets_fit nets ≡ true → net_fit nets.cleared.0 ≡ true
unfolding nets_fit
cleared-fits nets e = (both (net_fit nets.today.0) (net_fit nets.cleared.0) e).1

pub returns-in_err-pay_refusal : goal.returns-in_err-pay_refusal
returns-in_err-pay_refusal c rows =
    let told = err_from_is_err_and c.from_residual.result c.from_residual.ensures.1 in
    rw (told.1, told.2, ← c.in_err-pay_refusal.ensures rows) refl

pub falls_short-requires : goal.falls_short-requires
falls_short-requires c = cleared-fits _ c.requires.0

pub returns-then-falls_short : goal.returns-then-falls_short
returns-then-falls_short c rows =
    rw (c.not_paid.ensures, c.not_made.ensures rows, ← c.in_ok-pay_refusal.ensures rows, sym c.falls_short.ensures ∙ c.if-falls_short.true) refl

pub paid-requires : goal.paid-requires
paid-requires c =
    (cleared-fits _ c.requires.0, ltb-false _ _ (sym c.falls_short.ensures ∙ c.if-falls_short.false), omega (arith, (cash-fits _ _ c.requires.1).sum))

pub returns : goal.returns
returns c rows =
    rw (c.accepted.ensures, c.paid.ensures rows, ← c.in_ok-pay_refusal.ensures rows, sym c.falls_short.ensures ∙ c.if-falls_short.false) refl
