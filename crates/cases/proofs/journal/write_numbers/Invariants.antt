use Rattle.std.proofs.Common.{take}
use Rattle.cases.specs.Journal.{bytes_of}
use Rattle.cases.proofs.JournalLaws.{Written}
use Rattle.cases.proofs.journal.write_numbers.Given as goal

abbrev pub invariant-loop-k : goal.invariant-loop-k
invariant-loop-k l = Written l.initial.bytes l.at (take l.k (bytes_of l.numbers)) l.bytes
