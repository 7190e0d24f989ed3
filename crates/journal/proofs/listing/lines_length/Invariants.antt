use Rattle.std.proofs.Common.{◌≡◌, ◌*◌, ◌≤◌, length}
use Rattle.journal.specs.Listing.{lines_text}
use Rattle.journal.specs.Limits.{line_bytes}
use Rattle.journal.proofs.listing.lines_length.Given as goal

abbrev pub invariant-loop-k : goal.invariant-loop-k
invariant-loop-k l = (l.total ≡ length (lines_text l.k l.lines)) × (l.total ≤ line_bytes * l.k)
