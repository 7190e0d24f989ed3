-- A book's scalars with a part set anew, and U where it does not pass its limit. It states no rule.
-- Assumes nothing.
use Rattle.std.specs.Prelude.{ℕ, cond, Result, Ok, Err}
use Rattle.money.specs.declared.refusal.Refusal.{Refusal}
use Rattle.money.specs.Causes.{refusal_number}
use Rattle.rules.specs.Book.{answer}
use Rattle.rules.specs.Unpaid.{passes}
use Rattle.rules.specs.declared.book.Nets.{Nets}
use Rattle.rules.specs.declared.book.Unpaid.{Unpaid}
use Rattle.scalars.specs.declared.state.Scalars.{Scalars}
use Rattle.scalars.specs.declared.done.Done.{Done}

abbrev pub with_nets_and_trades : Nets → ℕ → Scalars → Scalars
with_nets_and_trades nets trades scalars = record { nets = nets; sums = scalars.sums; cash = scalars.cash; guarantee = scalars.guarantee; size = scalars.size; standing = scalars.standing; applications = scalars.applications; trades = trades }

abbrev pub with_unpaid : Unpaid → Scalars → Scalars
with_unpaid unpaid scalars = record { nets = scalars.nets; sums = record { unpaid = unpaid }; cash = scalars.cash; guarantee = scalars.guarantee; size = scalars.size; standing = scalars.standing; applications = scalars.applications; trades = scalars.trades }

-- U as it becomes with an amount more, or as it was where that would pass its limit
abbrev pub unless_past : (amount : ℕ) → (before after : Unpaid) → Unpaid
unless_past amount before after = cond (passes amount before) before after

-- what an event did; a refused one leaves the scalars as they were
abbrev pub done_by : Scalars → Result Done Refusal → Done
done_by scalars (Ok done) = done
done_by scalars (Err refusal) = record { answer = answer (refusal_number refusal); scalars = scalars }
