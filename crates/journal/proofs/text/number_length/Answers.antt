use Rattle.journal.proofs.TextLaws.{spelled-length}
use Rattle.journal.proofs.text.number_length.Goals as goal

pub returns : goal.returns
returns c =
    spelled-length _ _ c.decimal.ensures.len c.ranges.number.fits
