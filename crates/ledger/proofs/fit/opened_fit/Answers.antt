use Rattle.std.specs.Prelude.{◌≡◌, nat_le}
use mathlib.Core.Path.{sym, ◌∙◌}
use mathlib.Core.Bool.{false≢true}
use Rattle.rules.specs.Days.{payment_day}
use Rattle.rules.specs.Fit.{all_trades}
use Rattle.ledger.specs.Types.{Some}
use Rattle.ledger.proofs.Fitting.{last-test}
use Rattle.ledger.proofs.SumLaws.{test-holds}
use Rattle.ledger.proofs.SummaryLaws.{latest-decides}
use Rattle.ledger.proofs.fit.opened_fit.Goals.{then-trades_on, else-trades_on}
use Rattle.ledger.proofs.fit.opened_fit.Goals as goal

pub returns-then-has_next : goal.returns-then-has_next
returns-then-has_next c trades e =
    let begun : nat_le c.args.latest c.payment_day.result ≡ all_trades (λ trade. nat_le trade.first (payment_day c.args.calendar.now (Some c.args.today))) trades = rw (e, c.payment_day.ensures) (latest-decides trades _) in
    elim c.if-trades_on.branch [
      | then-trades_on w ↦ test-holds _ _ _ (sym c.trades_on.ensures ∙ w.if-trades_on.true) (test-holds _ _ _ (sym w.has_next.ensures ∙ sym w.value-is ∙ c.if-has_next.true) (last-test _ _ begun))
      | else-trades_on w ↦ absurd (false≢true (sym w.if-trades_on.false ∙ sym w.value-is ∙ c.if-has_next.true))
    ]
