use mathlib.Core.Path.{sym, ap, ◌∙◌}
use borrow.Author.Rules.{rules}
use Rattle.sort.specs.Sort.{neighbours_differ, all_differ}
use Rattle.sort.proofs.SortLaws.{after-sort}
use Rattle.sort.proofs.DifferLaws.{sorted-neighbours}
use Rattle.ledger.proofs.PlaceLaws.{differ-by-numbers}
use Rattle.ledger.proofs.trades.numbers_differ.Goals as goal

pub returns : goal.returns
returns c =
    c.neighbours_differ.ensures
    ∙ ap neighbours_differ (c.sort.ensures.1 ∙ after-sort _ (search rules))
    ∙ sorted-neighbours _
    ∙ ap all_differ c.contract_numbers.ensures
    ∙ sym (differ-by-numbers _)
