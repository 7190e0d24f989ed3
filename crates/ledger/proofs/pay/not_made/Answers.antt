use Rattle.rules.specs.Pay.{after_pay}
use Rattle.ledger.proofs.pay.not_made.Goals as goal

pub returns : goal.returns
unfolding after_pay
returns c rows =
    rw (c.paid_standing.ensures, c.failed_more.ensures)
