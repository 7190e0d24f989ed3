use Rattle.ledger.proofs.HeldLaws.{securities-kept}
use Rattle.ledger.proofs.PostingLaws.{posting-put, before-posting}
use Rattle.ledger.proofs.postings.put_posting.Goals as goal

pub returns : goal.returns
returns c =
    let prices = c.paired-prices.ensures in
    rw prices.0 (
      posting-put _ _ c.args.posting c.requires c.told-held (record { price = prices.1; fallback = prices.2 }),
      securities-kept _ _ (before-posting c.args.held.now c.args.number c.args.posting),
    )
