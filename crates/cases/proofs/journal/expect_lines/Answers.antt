use Rattle.std.specs.Prelude.{◌≡◌, ℕ, ◌+◌, ◌*◌, length, take, replicate}
use mathlib.Core.Path.{refl, ◌∙◌}
use native.Mathlib.Omega.{arith}
use lib.Seq.{length-take-le}
use Rattle.money.proofs.Refusals.{ok-where-none}
use Rattle.cases.proofs.JournalLaws.{not-refused, lines-in-front, ending}
use Rattle.cases.proofs.journal.expect_lines.Goals as goal

pub expect-requires : goal.expect-requires
expect-requires c =
    let count : ℕ = length c.args.start.now + length c.args.earlier.now + length c.args.events.now in
    let long : length (take (count * 8) c.encoded-bytes.result) ≡ count * 8 = length-take-le _ _ (omega (arith, c.requires.1)) in
    let clear = not-refused c.args.calendar.now _ (replicate 336 0) count c.requires.0 long c.requires.1 c.requires.2 refl in
    c.is_ok.ensures.value ∙ ok-where-none _ (c.run_listing-ran.ensures.0 ∙ clear)

pub expect-requires-2 : goal.expect-requires-2
expect-requires-2 c =
    let a = c.args in
    let count : ℕ = length a.start.now + length a.earlier.now + length a.events.now in
    let long : length (take (count * 8) c.encoded-bytes.result) ≡ count * 8 = length-take-le _ _ (omega (arith, c.requires.1)) in
    let clear = not-refused a.calendar.now _ (replicate 336 0) count c.requires.0 long c.requires.1 c.requires.2 refl in
    rw (c.same_numbers.ensures, lines-in-front _ _ _ _ count _ long c.requires.2 clear c.run_listing-ran.ensures.1, c.encoded-bytes.ensures)
    (ending a.calendar.now a.start.now a.earlier.now a.events.now a.lines.now ∙ c.requires.4)
