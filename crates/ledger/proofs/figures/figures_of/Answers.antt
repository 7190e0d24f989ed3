use mathlib.Core.Path.{sym, ap, ◌∙◌}
use native.Mathlib.Omega.{arith}
use Rattle.rules.specs.Trades.{outstanding}
use Rattle.rules.proofs.FitParts.{fit_parts, fit-securities}
use Rattle.ledger.proofs.FitFacts.{fit-keeps, fit-in-use}
use Rattle.ledger.proofs.figures.figures_of.Goals as goal

pub outstanding_of-requires : goal.outstanding_of-requires
outstanding_of-requires c =
    fit-keeps _ _ _ c.requires.1.fits

pub value_of-requires : goal.value_of-requires
value_of-requires c =
    let parts = fit_parts _ _ _ c.requires.1.fits in
    (fit-securities _ parts.securities, parts.cash.free, omega (arith, parts.cash.sum))

pub returns : goal.returns
returns c =
    rw (c.outstanding_of.ensures ∙ ap outstanding (sym (fit-in-use _ _ _ c.requires.1.fits)), c.value_of.ensures)
