-- U, what is owed to clients redeemed but not yet paid. (02, ask 2; art. 49)
-- Assumes nothing.
use Rattle.std.specs.Prelude.{ℕ, ◌+◌, Bool, ltb}
use Rattle.money.specs.Units.{fen}
use Rattle.rules.specs.Limits.{net_limit}
use Rattle.rules.specs.Book.{Unpaid, Book}

-- "U, the gross redemption amounts not yet paid, in a cleared part and a part of today"
abbrev pub unpaid_sum : Unpaid → ℕ
unpaid_sum unpaid = unpaid.cleared.0 + unpaid.today.0

-- U of a book
abbrev pub unpaid_of : Book → ℕ
unpaid_of book = unpaid_sum book.sums.unpaid

-- what is redeemed early or at maturity joins the part of today
abbrev pub today_plus : (amount : ℕ) → Unpaid → Unpaid
today_plus amount unpaid = record { today = fen (unpaid.today.0 + amount); cleared = unpaid.cleared }

-- "termination adds to the first"
abbrev pub cleared_plus : (amount : ℕ) → Unpaid → Unpaid
cleared_plus amount unpaid = record { today = unpaid.today; cleared = fen (unpaid.cleared.0 + amount) }

-- "Close adds the second to the first"
abbrev pub joined : Unpaid → Unpaid
joined unpaid = record { today = fen 0; cleared = fen (unpaid_sum unpaid) }

-- "Pay made sets the cleared part to 0 and keeps the part of today."
abbrev pub paid : Unpaid → Unpaid
paid unpaid = record { today = unpaid.today; cleared = fen 0 }

-- "U has the limit of a net: an event that would pass it is 14"
abbrev pub passes : (amount : ℕ) → Unpaid → Bool
passes amount unpaid = ltb net_limit (unpaid_sum unpaid + amount)
