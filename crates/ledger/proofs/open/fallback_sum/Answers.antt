use Rattle.ledger.specs.Flat.{book_of}
use Rattle.ledger.proofs.FitFacts.{fit-in-use}
use Rattle.ledger.proofs.RedemptionLaws.{fallback-bound}
use Rattle.ledger.proofs.OpenLaws.{redeemable-opened}
use Rattle.ledger.proofs.open.fallback_sum.Goals as goal

pub termination_plan-requires : goal.termination_plan-requires
termination_plan-requires c =
    rw c.payment_day-payment.ensures (redeemable-opened _ _ c.args.table.now _ c.requires)

pub returns : goal.returns
returns c =
    let book = book_of c.args.scalars c.requires.book.rows in (
      (λ rows. rw (c.termination_plan.ensures, c.payment_day-payment.ensures, c.requires.opened, fit-in-use c.args.calendar.now book c.args.table.now c.requires.book.fits)),
      rw (c.termination_plan.ensures, c.payment_day-payment.ensures) (fallback-bound _ _ _ (redeemable-opened _ _ c.args.table.now _ c.requires)),
    )
