use Rattle.std.specs.Prelude.{[], ◌∷◌}
use Rattle.journal.specs.Text.{spaced}
use Rattle.journal.proofs.TextLaws.{all-due, first-put, rest-put}
use Rattle.journal.proofs.text.put_spaced.Goals as goal

pub returns : goal.returns
unfolding spaced
returns c = rest-put (first-put (32 ∷ []) _ (all-due c.requires) c.put-digits.ensures) c.put_number.ensures
