use Rattle.ledger.specs.Flat.{vault_of, securities_of}
use Rattle.ledger.specs.Kind.{kind_number}
use Rattle.ledger.proofs.KindLaws.{number_known}
use Rattle.ledger.proofs.VaultLaws.{kind_fits}
use Rattle.ledger.proofs.vault.value_at.Goals as goal

pub worth-requires : goal.worth-requires
worth-requires c =
    let p = c.requires in
    let fits = kind_fits (vault_of c.args.guarantee (securities_of c.args.held.now)) (p.0, p.1, p.2) (kind_number c.args.kind) (number_known c.args.kind) in
    let had = c.had_of.ensures in
    rw (had.units.0, had.units.1, had.rate) (fits.free, fits.within, fits.rate)
