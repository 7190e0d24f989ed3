-- "1 Open, in Closed: goes to the next trading day, at first the earliest." (arts. 69, 70, 72)
-- Assumes nothing.
use Rattle.std.specs.Prelude.{ℕ, Bool, cond, not, ◌&&◌, ◌||◌, List, [], ◌∷◌, map, ltb, ℤ, pos, nat_abs, ◌+ℤ◌}
use Rattle.money.specs.Units.{signed_fen}
use Rattle.money.specs.Causes.{Cause, ◌⇒◌}
use Rattle.money.specs.Days.{Calendar}
use Rattle.rules.specs.Limits.{net_limit}
use Rattle.rules.specs.Book.{Day, Trading, Status, Standing, Unpaid, Book, is_closed, is_terminated, with_nets, with_unpaid, with_standing, with_postings, no_postings}
use Rattle.rules.specs.Status.{status_at_open}
use Rattle.rules.specs.Unpaid.{cleared_plus, passes}
use Rattle.rules.specs.Days.{following, to_day, payment_day, followed}
use Rattle.rules.specs.Trades.{Trade, in_use, total, fallback_amount, emptied, over}

-- the status of the day to be opened (arts. 69, 70)
abbrev pub next_status : Standing → Status
next_status standing = status_at_open standing.status standing.failed standing.short

-- "On turning terminated"
unfoldable pub turns_terminated : Standing → Bool
turns_terminated standing = not (is_terminated standing.status) && is_terminated (next_status standing)

-- the day to be opened
abbrev pub next_day : Calendar → Standing → Day
next_day calendar standing = to_day (following calendar standing.day)

-- "every trade is redeemed whole at its fallback price, the one due that day included, into the cleared net (art. 72)"
abbrev pub fallback_sum : Calendar → Book → List Trade → ℕ
fallback_sum calendar book table = total (fallback_amount (payment_day calendar (next_day calendar book.standing))) (in_use book.trades table)

abbrev pub net_with_fallbacks : Calendar → Book → List Trade → ℤ
net_with_fallbacks calendar book table = book.nets.cleared.0 +ℤ pos (fallback_sum calendar book table)

-- "termination adds to the first" part of U (02, ask 2)
abbrev pub unpaid_with_fallbacks : Calendar → Book → List Trade → Unpaid
unpaid_with_fallbacks calendar book table = cleared_plus (fallback_sum calendar book table) book.sums.unpaid

-- a termination that would pass the limit of the cleared net, or that of U
abbrev pub fallbacks_pass : Calendar → Book → List Trade → Bool
fallbacks_pass calendar book table =
    ltb net_limit (nat_abs (net_with_fallbacks calendar book table)) || passes (fallback_sum calendar book table) book.sums.unpaid

-- "for Open, 14 doesn't apply where 16 does"
unfoldable pub open_causes : Calendar → Book → List Trade → List Cause
open_causes calendar book table =
    let found = followed calendar (following calendar book.standing.day) in
    (not (is_closed book.standing.phase) ⇒ 4)
    ∷ (found && turns_terminated book.standing && fallbacks_pass calendar book table ⇒ 14)
    ∷ (not found ⇒ 16)
    ∷ []

-- "Then Trading."
abbrev pub opened_standing : Calendar → Standing → Standing
opened_standing calendar standing = record {
  day = next_day calendar standing;
  phase = Trading;
  status = next_status standing;
  failed = standing.failed;
  short = standing.short;
}

-- the book on the day opened, with what was posted before
abbrev pub turned_book : Calendar → Book → List Trade → Book
turned_book calendar book table =
    let turns = turns_terminated book.standing in
    let cleared = cond turns (net_with_fallbacks calendar book table) book.nets.cleared.0 in
    let unpaid = cond turns (unpaid_with_fallbacks calendar book table) book.sums.unpaid in
    with_standing (opened_standing calendar book.standing)
    (with_nets (record { today = book.nets.today; cleared = signed_fen cleared }) (with_unpaid unpaid book))

-- "Open forgets what was posted" (02, ask 4)
unfoldable pub opened_book : Calendar → Book → List Trade → Book
opened_book calendar book table = with_postings no_postings (turned_book calendar book table)

unfoldable pub opened_table : Book → List Trade → List Trade
opened_table book table =
    cond (turns_terminated book.standing) (over book.trades (map emptied (in_use book.trades table)) table) table
