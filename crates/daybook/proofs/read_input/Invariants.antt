use Rattle.std.proofs.Common.{◌-◌, ◌≤◌, length}
use Rattle.daybook.proofs.read_input.Given as goal

abbrev pub invariant-loop-size : goal.invariant-loop-size
invariant-loop-size g l = l.size ≤ length l.room

abbrev pub decreases-loop-size : goal.decreases-loop-size
decreases-loop-size g l = length l.room - l.size
