use Rattle.std.proofs.Common.{arith}
use Rattle.journal.proofs.SectionLaws.{no-calendar, to-events, no-events, to_end, some_left, none_left}
use Rattle.journal.proofs.sections.sections_of.Goals as goal

pub returns-in_err-words : goal.returns-in_err-words
returns-in_err-words c = rw c.from_residual.ensures (no-calendar _ _ _ c.new-reader.ensures c.in_err-words.ensures)

pub returns-in_err-events : goal.returns-in_err-events
returns-in_err-events c =
    let here = to-events _ _ _ _ _ _ c.new-reader.ensures c.in_ok-words.ensures c.past-reader.ensures in
    rw c.from_residual-in_err-events.ensures (no-events _ _ _ _ here c.in_err-events.ensures)

pub returns-then-left-gt0 : goal.returns-then-left-gt0
returns-then-left-gt0 c =
    let here = to-events _ _ _ _ _ _ c.new-reader.ensures c.in_ok-words.ensures c.past-reader.ensures in
    let there = to_end _ _ _ _ here _ _ _ c.in_ok-events.ensures c.past-reader-2.ensures in
    some_left _ _ _ _ here _ _ _ _ there c.left.ensures (omega arith)

pub returns : goal.returns
returns c =
    let here = to-events _ _ _ _ _ _ c.new-reader.ensures c.in_ok-words.ensures c.past-reader.ensures in
    let there = to_end _ _ _ _ here _ _ _ c.in_ok-events.ensures c.past-reader-2.ensures in
    none_left _ _ _ _ here _ _ _ _ there c.left.ensures (omega arith)
