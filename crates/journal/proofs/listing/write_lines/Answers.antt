use native.Mathlib.Omega.{arith}
use Rattle.journal.proofs.LineLaws.{too_short, in-front}
use Rattle.journal.proofs.listing.write_lines.Goals as goal

pub returns-then-text-length : goal.returns-then-text-length
returns-then-text-length c =
    too_short _ _ (omega (arith, c.if-text-length.true, c.lines_length-length.ensures))

pub returns : goal.returns
returns c =
    in-front _ _ _ _ (omega (arith, c.if-text-length.false, c.lines_length-length.ensures)) c.lines_length-length.ensures c.put_lines.ensures
