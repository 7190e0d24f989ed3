-- Nothing from the day asked for up to this word's bit trades.
use Rattle.std.proofs.Common.{◌≡◌, ◌+◌, ◌*◌, ◌<◌}
use Rattle.money.specs.Days.{at_or_after}
use Rattle.money.proofs.days.from_day.Given as goal

abbrev pub invariant-loop-word : goal.invariant-loop-word
invariant-loop-word l = (l.bit < 32) × (at_or_after l.calendar l.fn.from ≡ at_or_after l.calendar (32 * l.word + l.bit))
