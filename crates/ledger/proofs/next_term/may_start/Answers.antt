use mathlib.Core.Bool.{false≢true}
use mathlib.Core.Path.{sym, ◌∙◌}
use Rattle.ledger.proofs.StartLaws.{nothing-posted, not-while-not-normal, not-where-none-posted}
use Rattle.ledger.proofs.next_term.may_start.Goals as goal

pub returns-then-is_normal : goal.returns-then-is_normal
returns-then-is_normal c = (
  (λ e. sym c.is_normal.ensures ∙ c.if-is_normal.true),
  λ e calendar kinds units o trade known. not-where-none-posted _ _ o trade (nothing-posted _ (c.any_posted.ensures e) trade.product known),
)

pub returns-else-is_normal : goal.returns-else-is_normal
returns-else-is_normal c = (
  (λ e. absurd (false≢true (sym c.if-is_normal.false ∙ e))),
  λ e calendar kinds units o trade known. not-while-not-normal _ _ o trade (sym c.is_normal.ensures ∙ e),
)
