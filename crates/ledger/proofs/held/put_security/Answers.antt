use Rattle.ledger.proofs.HeldLaws.{security-put}
use Rattle.ledger.proofs.held.put_security.Goals as goal

pub returns : goal.returns
returns c =
    rw (c.copy_from_slice.ensures.after, c.from-first.ensures) (security-put _ _ c.args.security c.args.at.known c.told-held)
