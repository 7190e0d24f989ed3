use Rattle.rules.specs.Vault.{headroom}
use Rattle.rules.proofs.FitParts.{fit_parts, fit-securities, fits-cash}
use Rattle.ledger.proofs.initial.lacks_headroom.Goals as goal

pub value_known-value-requires : goal.value_known-value-requires
value_known-value-requires c =
    let parts = fit_parts _ _ _ c.requires.0.book.fits in
    (fit-securities _ parts.securities, fits-cash _ _ parts.cash, c.requires.0.value)

pub returns : goal.returns
unfolding headroom
returns c kinds units =
    rw (c.requires.0.sheets, c.value_known-value.ensures) at c.above_headroom.ensures
