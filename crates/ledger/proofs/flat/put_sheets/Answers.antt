use Rattle.ledger.proofs.StoreLaws.{sheets-put}
use Rattle.ledger.proofs.flat.put_sheets.Goals as goal

pub returns : goal.returns
returns c =
    sheets-put _ _ _ c.requires
