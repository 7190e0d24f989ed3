-- Withdrawals on evenings with unpaid redemptions, what becomes of U, and its limit, computed. (02, ask 2; arts. 49, 52, 53)
-- Assumes nothing.
use mathlib.Core.Path.{◌≡◌, refl}
use mathlib.Core.Bool.{Bool, true}
use mathlib.Core.List.{List, [], ◌∷◌, map}
use Prim.Native.Nat.{ℕ}
use lib.Dec.{leb}
use Rattle.money.specs.Units.{fen, sheets, ticks}
use Rattle.money.specs.Days.{Calendar}
use Rattle.rules.specs.Book.{Book, with_unpaid}
use Rattle.rules.specs.Vault.{value, outstanding_of}
use Rattle.rules.specs.Entry.{Client, Open, FundOut, Withdraw, Early, Pay, Close, Entry, Some}
use Rattle.rules.specs.Close.{taken_out}
use Rattle.rules.specs.Step.{step}
use Rattle.rules.specs.Run.{Seen, last_book, last_table}
use Rattle.rules.proofs.Opened.{every_rule}
use Rattle.rules.proofs.Cases.{◌then◌, daily, initial, cover180, failed_twice, after, table_after}
use Rattle.rules.proofs.Slips.{rows_by}

-- the answer's number, applications done and dropped, and U: its part of today, its cleared part
abbrev row_of : Seen → List ℕ
row_of seen =
    seen.left.answer.number
    ∷ seen.left.answer.done
    ∷ seen.left.answer.dropped
    ∷ seen.left.book.sums.unpaid.today.0
    ∷ seen.left.book.sums.unpaid.cleared.0
    ∷ []

abbrev early : (count price : ℕ) → Entry
early count price = Some (Early (record { 0 = 7 }) (sheets count) (ticks price))

-- V is 180; contract 7 runs with 100 sheets since yesterday; today 40 of them are redeemed at some price
abbrev redeemed40 : (price : ℕ) → List Entry
redeemed40 price = cover180 then (initial 100 7 3650 1000 4 ∷ Some Pay ∷ Some Close ∷ Some Open ∷ early 40 price ∷ [])

-- units of kind 0 applied for, then the day's end
abbrev evening : (units : ℕ) → List Entry
evening units = Some (Withdraw 0 units) ∷ Some Pay ∷ Some Close ∷ []

-- ---- either side, and equality

-- 60 sheets stand and U is 400,000. 80 units leave V at 108, done; 88 leave it at 100, equal, done; 89 leave it at 99, dropped.
-- Pay made keeps today's part; Close joins it to the cleared one.
pub unpaid-evenings : map (λ (units : ℕ). rows_by row_of daily (redeemed40 0) (evening units)) (80 ∷ 88 ∷ 89 ∷ []) ≡
    ((0 ∷ 0 ∷ 0 ∷ 400000 ∷ 0 ∷ []) ∷ (0 ∷ 0 ∷ 0 ∷ 400000 ∷ 0 ∷ []) ∷ (0 ∷ 1 ∷ 0 ∷ 0 ∷ 400000 ∷ []) ∷ [])
    ∷ ((0 ∷ 0 ∷ 0 ∷ 400000 ∷ 0 ∷ []) ∷ (0 ∷ 0 ∷ 0 ∷ 400000 ∷ 0 ∷ []) ∷ (0 ∷ 1 ∷ 0 ∷ 0 ∷ 400000 ∷ []) ∷ [])
    ∷ ((0 ∷ 0 ∷ 0 ∷ 400000 ∷ 0 ∷ []) ∷ (0 ∷ 0 ∷ 0 ∷ 400000 ∷ 0 ∷ []) ∷ (0 ∷ 0 ∷ 1 ∷ 0 ∷ 400000 ∷ []) ∷ [])
    ∷ []
unfolding rows_by
unpaid-evenings = refl

-- by the rule of document 01, "V afterwards is at least O", all three would go: O is 60
abbrev at_least_o : (units : ℕ) → Bool
at_least_o units =
    leb (outstanding_of (after daily (redeemed40 0)) (table_after daily (redeemed40 0))) (value (taken_out 0 units (after daily (redeemed40 0)).vault))

pub all-three-by-outstanding-alone : map at_least_o (80 ∷ 88 ∷ 89 ∷ []) ≡ (true ∷ true ∷ true ∷ [])
unfolding every_rule last_book last_table
all-three-by-outstanding-alone = refl

-- income counts too: one fen of it, and 88 units are dropped
pub one-fen-more : rows_by row_of daily (redeemed40 92) (evening 88) ≡
    (0 ∷ 0 ∷ 0 ∷ 400001 ∷ 0 ∷ [])
    ∷ (0 ∷ 0 ∷ 0 ∷ 400001 ∷ 0 ∷ [])
    ∷ (0 ∷ 0 ∷ 1 ∷ 0 ∷ 400001 ∷ [])
    ∷ []
unfolding rows_by
one-fen-more = refl

-- once they are paid the clients hold the pledge no more: the next evening the 89 units go
pub paid-evening : rows_by row_of daily (redeemed40 0 then evening 89) (Some Open ∷ evening 89) ≡
    (0 ∷ 0 ∷ 0 ∷ 0 ∷ 400000 ∷ [])
    ∷ (0 ∷ 0 ∷ 0 ∷ 0 ∷ 400000 ∷ [])
    ∷ (0 ∷ 0 ∷ 0 ∷ 0 ∷ 0 ∷ [])
    ∷ (0 ∷ 1 ∷ 0 ∷ 0 ∷ 0 ∷ [])
    ∷ []
unfolding rows_by
paid-evening = refl

-- this Close's own maturities are unpaid as well: 60 sheets mature over 3 days, none stands, and of 199 units none goes
abbrev until_maturity : List Entry
until_maturity = redeemed40 0 then (Some Pay ∷ Some Close ∷ Some Open ∷ Some Pay ∷ Some Close ∷ Some Open ∷ [])

pub maturing-evening : rows_by row_of daily until_maturity (evening 199) ≡
    (0 ∷ 0 ∷ 0 ∷ 0 ∷ 0 ∷ [])
    ∷ (0 ∷ 0 ∷ 0 ∷ 0 ∷ 0 ∷ [])
    ∷ (0 ∷ 0 ∷ 1 ∷ 0 ∷ 600180 ∷ [])
    ∷ []
unfolding rows_by
maturing-evening = refl

-- ---- what a payment and a termination make of it

-- today's initial trade is larger than what is redeemed: the clients pay the net, and U is cleared all the same; what is redeemed
-- before that payment stays
pub net-below-zero : rows_by row_of daily (redeemed40 0) (initial 80 8 3650 1000 5 ∷ Some Pay ∷ Some Close ∷ Some Open ∷ early 10 0 ∷ Some Pay ∷ []) ≡
    (0 ∷ 0 ∷ 0 ∷ 400000 ∷ 0 ∷ [])
    ∷ (0 ∷ 0 ∷ 0 ∷ 400000 ∷ 0 ∷ [])
    ∷ (0 ∷ 0 ∷ 0 ∷ 0 ∷ 400000 ∷ [])
    ∷ (0 ∷ 0 ∷ 0 ∷ 0 ∷ 400000 ∷ [])
    ∷ (0 ∷ 0 ∷ 0 ∷ 100000 ∷ 400000 ∷ [])
    ∷ (0 ∷ 0 ∷ 0 ∷ 100000 ∷ 0 ∷ [])
    ∷ []
unfolding rows_by
net-below-zero = refl

-- the clients hold nothing, so their payment of the initial amount fails; of it 10 sheets were redeemed on its first day
abbrev owed_for_10 : List Entry
owed_for_10 =
    cover180
    then (Some (FundOut Client (fen 3000000)) ∷ initial 100 7 3650 1000 6 ∷ early 10 0 ∷ Some Pay ∷ Some Close ∷ Some Open ∷ [])

-- a payment that fails keeps both parts; the second failure terminates, and contract 7 joins the cleared part at its fallback price,
-- 80 sheets over 3 days; there it stays, for Pay is 5
pub failed-and-terminated : rows_by row_of daily owed_for_10 (early 10 0 ∷ Some Pay ∷ Some Close ∷ Some Open ∷ Some Pay ∷ Some Close ∷ Some Open ∷ Some Pay ∷ []) ≡
    (0 ∷ 0 ∷ 0 ∷ 100000 ∷ 100000 ∷ [])
    ∷ (99 ∷ 0 ∷ 0 ∷ 100000 ∷ 100000 ∷ [])
    ∷ (0 ∷ 0 ∷ 0 ∷ 0 ∷ 200000 ∷ [])
    ∷ (0 ∷ 0 ∷ 0 ∷ 0 ∷ 200000 ∷ [])
    ∷ (99 ∷ 0 ∷ 0 ∷ 0 ∷ 200000 ∷ [])
    ∷ (0 ∷ 0 ∷ 0 ∷ 0 ∷ 200000 ∷ [])
    ∷ (0 ∷ 0 ∷ 0 ∷ 0 ∷ 1000066 ∷ [])
    ∷ (5 ∷ 0 ∷ 0 ∷ 0 ∷ 1000066 ∷ [])
    ∷ []
unfolding rows_by
failed-and-terminated = refl

-- ---- "U has the limit of a net", 4 × 10^18: on books whose nets are small, with U set anew

abbrev owing : (today cleared : ℕ) → Calendar → List Entry → Book
owing today cleared calendar entries = with_unpaid (record { today = fen today; cleared = fen cleared }) (after calendar entries)

abbrev number_at : Calendar → List Entry → Entry → (today cleared : ℕ) → ℕ
number_at calendar entries entry today cleared = (step calendar (owing today cleared calendar entries) (table_after calendar entries) entry).answer.number

-- 10 sheets at 0 ticks are 100,000 fen: up to the limit, and one fen past it, by either part
pub early-at-limit : map (number_at daily (redeemed40 0) (early 10 0) 0) (3999999999999900000 ∷ 3999999999999900001 ∷ []) ≡ (0 ∷ 14 ∷ [])
unfolding every_rule last_book last_table
early-at-limit = refl

pub early-by-todays-part : map (number_at daily (redeemed40 0) (early 10 0) 3999999999999900000) (0 ∷ 1 ∷ []) ≡ (0 ∷ 14 ∷ [])
unfolding every_rule last_book last_table
early-by-todays-part = refl

-- 60 sheets mature at 600,180 fen
pub close-at-limit : map (number_at daily (until_maturity then (Some Pay ∷ [])) (Some Close) 0) (3999999999999399820 ∷ 3999999999999399821 ∷ []) ≡ (0 ∷ 14 ∷ [])
unfolding every_rule last_book last_table
close-at-limit = refl

-- 100 sheets are redeemed on termination, for 1,000,082 fen; with no day to go to it is 16 on either side
abbrev five_days : Calendar
five_days = 31 ∷ []

pub open-at-limit : map (number_at daily failed_twice (Some Open) 0) (3999999999998999918 ∷ 3999999999998999919 ∷ []) ≡ (0 ∷ 14 ∷ [])
unfolding every_rule last_book last_table
open-at-limit = refl

pub no-day-at-limit : map (number_at five_days failed_twice (Some Open) 0) (3999999999998999918 ∷ 3999999999998999919 ∷ []) ≡ (16 ∷ 16 ∷ [])
unfolding every_rule last_book last_table
no-day-at-limit = refl

-- U at its limit is fit, and past it is 1, by either part alone and by both together
abbrev pay_owing : (today cleared : ℕ) → ℕ
pay_owing = number_at daily (redeemed40 0) (Some Pay)

pub unfit-past-limit : (pay_owing 2000000000000000000 2000000000000000000 ∷ pay_owing 2000000000000000001 2000000000000000000 ∷ pay_owing 4000000000000000001 0 ∷ pay_owing 0 4000000000000000001 ∷ []) ≡ (0 ∷ 1 ∷ 1 ∷ 1 ∷ [])
unfolding every_rule last_book last_table
unfit-past-limit = refl
