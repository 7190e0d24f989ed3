use mathlib.Core.Path.{refl, ◌∙◌}
use native.Mathlib.Omega.{arith}
use Rattle.std.proofs.lemmas.Slice.{put_mid-paste}
use Rattle.journal.proofs.TextLaws.{pasted}
use Rattle.journal.proofs.text.put.Goals as goal

pub returns : goal.returns
returns c = (refl, put_mid-paste _ _ _ _ _ _ c.copy_from_slice.ensures.after (omega arith) refl ∙ pasted _ _ _)
