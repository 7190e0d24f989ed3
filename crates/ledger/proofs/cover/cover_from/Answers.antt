use Rattle.ledger.proofs.cover.cover_from.Goals as goal

pub returns : goal.returns
returns c =
    rw c.headroom_from.ensures
