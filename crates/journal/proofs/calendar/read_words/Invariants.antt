use Rattle.std.proofs.Common.{◌≡◌, ◌++◌, drop}
use Rattle.journal.specs.Sections.{words_of}
use Rattle.journal.proofs.calendar.read_words.Given as goal

abbrev pub invariant-loop-k : goal.invariant-loop-k
invariant-loop-k l = l.word-items ≡ words_of l.k (drop l.at l.journal) ++ drop l.k l.initial.word-items
