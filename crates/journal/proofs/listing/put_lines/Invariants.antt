use Rattle.journal.specs.Listing.{lines_text}
use Rattle.journal.proofs.TextLaws.{Put}
use Rattle.journal.proofs.listing.put_lines.Given as goal

abbrev pub invariant-loop-k : goal.invariant-loop-k
invariant-loop-k l = Put l.initial.text 0 (lines_text l.k l.lines) l.text l.at
