use Rattle.std.specs.Prelude.{◌≡◌, ◌+◌, ◌*◌, ◌++◌, length}
use mathlib.Core.Path.{refl, ap, ◌∙◌}
use native.Mathlib.Omega.{arith}
use lib.ListN.{length-append}
use Rattle.cases.proofs.JournalLaws.{joined, in-front}
use Rattle.cases.proofs.journal.encoded.Goals as goal

pub returns : goal.returns
returns c =
    let s = c.args in
    let two : length (s.start.now ++ s.earlier.now) ≡ length s.start.now + length s.earlier.now = length-append s.start.now s.earlier.now in
    let three : length ((s.start.now ++ s.earlier.now) ++ s.events.now) ≡ length s.start.now + length s.earlier.now + length s.events.now =
    length-append (s.start.now ++ s.earlier.now) s.events.now ∙ ap (λ n. n + length s.events.now) two in
    let second = joined _ s.start.now s.earlier.now _ refl c.write_numbers.ensures c.write_numbers-2.ensures in
    let third = joined _ (s.start.now ++ s.earlier.now) s.events.now _ (ap (λ n. n * 8) two) second c.write_numbers-3.ensures in
    in-front _ _ _ three (omega arith) third
