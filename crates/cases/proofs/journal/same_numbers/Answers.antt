use Rattle.std.specs.Prelude.{◌≡◌, ◌-◌, length, take, drop}
use mathlib.Core.Path.{◌∙◌}
use native.Mathlib.Omega.{arith}
use lib.ListN.{length-drop}
use lib.Seq.{take_all}
use Rattle.cases.proofs.JournalLaws.{same_front}
use Rattle.cases.proofs.journal.same_numbers.Goals as goal

pub returns : goal.returns
returns c =
    let a = c.args in
    let rest : take (length a.numbers.now - a.at) (drop a.at a.numbers.now) ≡ drop a.at a.numbers.now = take_all _ _ (omega (arith, length-drop a.at a.numbers.now)) in
    rw rest at c.starts_with.ensures.value ∙ same_front a.numbers.now a.lines.now a.at c.requires
