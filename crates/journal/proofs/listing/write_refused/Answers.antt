use Rattle.std.specs.Prelude.{◌≡◌, length}
use mathlib.Core.Path.{refl}
use native.Mathlib.Omega.{arith}
use Rattle.journal.specs.Listing.{refused_line}
use Rattle.journal.proofs.LineLaws.{too_short, in-front}
use Rattle.journal.proofs.listing.write_refused.Goals as goal

line-long : length refused_line ≡ 16
unfolding refused_line
line-long = refl

pub returns-then-text-lt16 : goal.returns-then-text-lt16
returns-then-text-lt16 c =
    too_short refused_line _ (omega (arith, line-long, c.if-text-lt16.true))

pub returns : goal.returns
unfolding refused_line
returns c =
    in-front refused_line _ _ _ (omega (arith, line-long, c.if-text-lt16.false)) c.put.ensures.0 c.put.ensures.1
