use Rattle.ledger.proofs.fit.day_fit.Goals as goal

pub returns-in-None : goal.returns-in-None
returns-in-None c trades e =
    rw c.in-None.is c.unopened_fit.ensures

pub returns-in-Some : goal.returns-in-Some
returns-in-Some c trades e =
    rw c.in-Some.is (c.opened_fit.ensures trades e)
