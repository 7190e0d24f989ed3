-- "11 Pay, in Trading: the whole cleared net N moves, own to client if above 0, the other way if below." (art. 62)
-- Assumes nothing.
use Rattle.std.specs.Prelude.{ℕ, suc, ◌+◌, ◌-◌, Bool, true, false, not, List, [], ◌∷◌, ltb, ℤ, pos, negsuc, nat_abs}
use Rattle.money.specs.Units.{fen, signed_fen}
use Rattle.money.specs.Causes.{Cause, ◌⇒◌}
use Rattle.rules.specs.Book.{Cash, Paid, FailedRun, NotFailed, FailedOnce, FailedTwice, Standing, Book, is_trading, is_terminated, with_nets, with_unpaid, with_cash, with_standing}
use Rattle.rules.specs.Unpaid.{paid}

-- what the payer of a net holds
abbrev pub payer_holds : ℤ → Cash → ℕ
payer_holds (pos net) cash = cash.own.0
payer_holds (negsuc net) cash = cash.client.0

abbrev pub moved : ℤ → Cash → Cash
moved (pos net) cash = record { own = fen (cash.own.0 - net); client = fen (cash.client.0 + net) }
moved (negsuc net) cash = record { own = fen (cash.own.0 + suc net); client = fen (cash.client.0 - suc net) }

-- "The payer holding less than |N|: nothing moves, answer 99"
abbrev pub fails : Book → Bool
fails book = ltb (payer_holds book.nets.cleared.0 book.cash) (nat_abs book.nets.cleared.0)

-- "the failed run grows, at most to 2"
abbrev pub failed_more : FailedRun → FailedRun
failed_more NotFailed = FailedOnce
failed_more FailedOnce = FailedTwice
failed_more FailedTwice = FailedTwice

unfoldable pub pay_causes : Book → List Cause
pay_causes book =
    (not (is_trading book.standing.phase) ⇒ 4)
    ∷ (is_terminated book.standing.status ⇒ 5)
    ∷ []

-- "Paid either way", with the failed run as it then is
abbrev pub paid_standing : FailedRun → Standing → Standing
paid_standing failed standing = record { day = standing.day; phase = Paid; status = standing.status; failed = failed; short = standing.short }

-- "N waits for the next Pay with whatever is cleared since"; "Otherwise N and that run become 0.", and with
-- them U's cleared part (02, ask 2)
unfoldable pub after_pay : (failing : Bool) → Book → Book
after_pay true book = with_standing (paid_standing (failed_more book.standing.failed) book.standing) book
after_pay false book =
    with_standing (paid_standing NotFailed book.standing)
    (with_nets (record { today = book.nets.today; cleared = signed_fen (pos 0) })
    (with_unpaid (paid book.sums.unpaid) (with_cash (moved book.nets.cleared.0 book.cash) book)))

abbrev pub pay_number : (failing : Bool) → ℕ
pay_number true = 99
pay_number false = 0
