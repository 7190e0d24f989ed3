use Rattle.book.proofs.TableLaws.{Copied}
use Rattle.book.proofs.copies.copy_out.Given as goal

abbrev pub invariant-loop-place : goal.invariant-loop-place
invariant-loop-place l = Copied l.flat l.table l.place
