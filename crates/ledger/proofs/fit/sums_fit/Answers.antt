use mathlib.Core.Path.{ap, ◌∙◌}
use Rattle.std.specs.Prelude.{not}
use Rattle.rules.specs.Fit.{sums_fit}
use Rattle.scalars.proofs.UnpaidLaws.{fit-unless-past}
use Rattle.ledger.proofs.fit.sums_fit.Goals as goal

pub returns : goal.returns
unfolding sums_fit
returns c =
    ap not c.passes.ensures ∙ fit-unless-past c.args.sums.unpaid
