use Rattle.rules.specs.Pay.{after_pay}
use Rattle.ledger.proofs.pay.paid.Goals as goal

pub returns : goal.returns
unfolding after_pay
returns c rows =
    rw (c.paid_standing.ensures, c.cash_moved.ensures, c.with_unpaid.ensures, c.paid.ensures, c.paid-2.ensures)
