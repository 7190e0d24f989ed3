-- Posting, and automatic next terms, computed: what is turned away, terms that start, terms that do not, and what they leave. (02, ask 4; art. 30)
-- Assumes nothing.
use mathlib.Core.Path.{◌≡◌, refl}
use mathlib.Core.List.{List, [], ◌∷◌, ◌++◌, map}
use Prim.Native.Nat.{ℕ, suc}
use lib.IntN.{nat_abs}
use lib.ListN.{take}
use Rattle.money.specs.Units.{fen, sheets, ticks}
use Rattle.money.specs.Days.{Calendar}
use Rattle.rules.specs.Unpaid.{unpaid_of}
use Rattle.rules.specs.Trades.{Trade, in_use}
use Rattle.rules.specs.Vault.{headroom, outstanding_of}
use Rattle.rules.specs.Entry.{Client, Open, FundOut, Pledge, Freeze, Withdraw, Initial, Early, Pay, Close, Post, Entry, Some}
use Rattle.rules.specs.Step.{Outcome, step}
use Rattle.rules.specs.Run.{last_book, last_table}
use Rattle.rules.specs.Demand3.{number, seen_from}
use Rattle.rules.proofs.Opened.{every_rule}
use Rattle.rules.proofs.Cases.{◌then◌, no_trades, daily, cover180, failed_once, failed_twice, after, table_after}

abbrev pub post : (product term price fallback : ℕ) → Entry
post product term price fallback = Some (Post product (record { term = term; price = ticks price; fallback = ticks fallback }))

-- an initial trade of a product, by the product's number
abbrev pub initial_of : (product count contract due : ℕ) → Entry
initial_of product count contract due =
    Some (Initial (record {
      contract = record { 0 = contract };
      sheets = sheets count;
      price = ticks 3650;
      fallback = ticks 1000;
      due = due;
      product = suc product;
    }))

-- the end of a day, and the next one opened
abbrev next_morning : List Entry
next_morning = Some Pay ∷ Some Close ∷ Some Open ∷ []

-- ---- numbers

abbrev numbers_over : List Entry → List ℕ
numbers_over entries = map number (seen_from daily no_trades entries)

abbrev numbers_after : List Entry → List Entry → List ℕ
numbers_after earlier entries = map (λ entry. (step daily (after daily earlier) (table_after daily earlier) entry).answer.number) entries

-- on a fresh book 20 comes before 4, and product 15 is the last
pub numbers-before-the-first-day : numbers_over (initial_of 3 10 7 4 ∷ post 16 1 0 0 ∷ post 15 1 0 0 ∷ []) ≡ 20 ∷ 20 ∷ 4 ∷ []
unfolding every_rule
numbers-before-the-first-day = refl

-- a bad price, either one, is 8 before a bad term is 9; terms of 1 and of 365 days are done
pub numbers-of-post : numbers_after cover180 (post 16 0 100001 0 ∷ post 15 0 100001 0 ∷ post 0 1 0 100001 ∷ post 3 0 1 1 ∷ post 3 366 1 1 ∷ post 3 365 100000 100000 ∷ post 3 1 0 0 ∷ []) ≡
    20 ∷ 8 ∷ 8 ∷ 9 ∷ 9 ∷ 0 ∷ 0 ∷ []
unfolding every_rule last_book last_table
numbers-of-post = refl

-- it is done while suspended, 5 on a terminated book and 4 once paid; 20 comes first
pub numbers-of-post-by-the-day : numbers_after (failed_once then (Some Open ∷ [])) (post 3 1 1 1 ∷ [])
    ++ numbers_after (failed_twice then (Some Open ∷ [])) (post 3 1 1 1 ∷ post 3 0 100001 0 ∷ post 16 1 1 1 ∷ [])
    ++ numbers_after (cover180 then (Some Pay ∷ [])) (post 3 1 1 1 ∷ []) ≡
    0 ∷ 5 ∷ 5 ∷ 20 ∷ 4 ∷ []
unfolding every_rule last_book last_table
numbers-of-post-by-the-day = refl

-- only product 3 is posted, and a byte of 17 names no product; 20 comes before 7; Open forgets what was posted
pub numbers-of-products : numbers_after (cover180 then (post 3 2 1 1 ∷ [])) (initial_of 3 10 7 4 ∷ initial_of 2 10 7 4 ∷ initial_of 4 15 7 4 ∷ initial_of 16 10 7 4 ∷ [])
    ++ numbers_after (cover180 then (post 3 2 1 1 ∷ next_morning)) (initial_of 3 10 7 4 ∷ []) ≡
    0 ∷ 20 ∷ 20 ∷ 20 ∷ 20 ∷ []
unfolding every_rule last_book last_table
numbers-of-products = refl

-- ---- a Close, told by rows: the answer's number and sheets matured, the size of headroom, O, the size of the cleared net; then each record in use

abbrev record_row : Trade → List ℕ
record_row t = t.contract.0 ∷ t.sheets.0 ∷ t.price.0 ∷ t.fallback.0 ∷ t.first ∷ t.due ∷ t.product ∷ []

abbrev numbers_row : Outcome → List ℕ
numbers_row left =
    left.answer.number
    ∷ left.answer.matured.0
    ∷ nat_abs (headroom left.book left.table)
    ∷ outstanding_of left.book left.table
    ∷ nat_abs left.book.nets.cleared.0
    ∷ []

abbrev rows_of : Outcome → List (List ℕ)
rows_of left = numbers_row left ∷ map record_row (in_use left.book.trades left.table)

abbrev closed : Calendar → List Entry → Outcome
closed calendar earlier = step calendar (after calendar earlier) (table_after calendar earlier) (Some Close)

-- ---- terms that start

-- contract 7, 100 sheets of product 3, is due on day 2
abbrev pub begun100 : List Entry
begun100 = cover180 then (post 3 1 3650 1000 ∷ initial_of 3 100 7 2 ∷ []) then next_morning

-- it matures at 1,000,100 and starts again at 1,000,000, first paid on day 3, due on day 2 + 3
abbrev due_again : List Entry
due_again = begun100 then (post 3 3 1825 500 ∷ Some Pay ∷ [])

pub term-starts : rows_of (closed daily due_again) ≡ (0 ∷ 100 ∷ 80 ∷ 100 ∷ 100 ∷ []) ∷ (7 ∷ 100 ∷ 1825 ∷ 500 ∷ 3 ∷ 5 ∷ 4 ∷ []) ∷ []
unfolding every_rule last_book last_table
term-starts = refl

-- "a later Post replaces it", and one of another product does not
abbrev due_posted_twice : List Entry
due_posted_twice = begun100 then (post 3 1 9999 9999 ∷ post 3 3 1825 500 ∷ post 4 2 1 1 ∷ post 2 2 1 1 ∷ Some Pay ∷ [])

pub later-post-replaces : rows_of (closed daily due_posted_twice) ≡ (0 ∷ 100 ∷ 80 ∷ 100 ∷ 100 ∷ []) ∷ (7 ∷ 100 ∷ 1825 ∷ 500 ∷ 3 ∷ 5 ∷ 4 ∷ []) ∷ []
unfolding every_rule last_book last_table
later-post-replaces = refl

-- on day 3 its next term is due as well, and matures at 1,000,050; another one starts
abbrev due_third : List Entry
due_third = begun100 then (post 3 1 1825 500 ∷ []) then next_morning then (post 3 2 730 100 ∷ Some Pay ∷ [])

pub term-starts-twice : rows_of (closed daily due_third) ≡ (0 ∷ 100 ∷ 80 ∷ 100 ∷ 50 ∷ []) ∷ (7 ∷ 100 ∷ 730 ∷ 100 ∷ 4 ∷ 5 ∷ 4 ∷ []) ∷ []
unfolding every_rule last_book last_table
term-starts-twice = refl

-- days 1, 2, 3 and 6 to 10 trade; contract 7 is due on day 3
abbrev holidays : Calendar
holidays = 1998 ∷ []

abbrev due_before_holiday : List Entry
due_before_holiday = cover180 then (post 3 1 3650 1000 ∷ initial_of 3 100 7 3 ∷ []) then next_morning then (post 3 1 1825 500 ∷ Some Pay ∷ [])

abbrev due_on_holiday : List Entry
due_on_holiday = due_before_holiday then (Some Close ∷ Some Open ∷ post 3 2 730 100 ∷ Some Pay ∷ [])

-- its next term is due on day 4, a holiday, first paid on day 6; on day 6 it matures over 7 - 6 = 1 day, and another one starts
pub holiday-moves-nothing : rows_of (closed holidays due_before_holiday) ++ rows_of (closed holidays due_on_holiday) ≡
    (0 ∷ 100 ∷ 80 ∷ 100 ∷ 300 ∷ [])
    ∷ (7 ∷ 100 ∷ 1825 ∷ 500 ∷ 6 ∷ 4 ∷ 4 ∷ [])
    ∷ (0 ∷ 100 ∷ 80 ∷ 100 ∷ 50 ∷ [])
    ∷ (7 ∷ 100 ∷ 730 ∷ 100 ∷ 7 ∷ 8 ∷ 4 ∷ [])
    ∷ []
unfolding every_rule last_book last_table
holiday-moves-nothing = refl

-- 5 of 100 sheets are redeemed early, and 95 start again: "its sheets need not be a multiple of 10"
abbrev due_in_part : List Entry
due_in_part =
    (cover180 then (post 3 1 3650 1000 ∷ initial_of 3 100 7 3 ∷ []) then next_morning)
    then (Some (Early (record { 0 = 7 }) (sheets 5) (ticks 3650)) ∷ next_morning)
    then (post 3 2 1825 500 ∷ Some Pay ∷ [])

pub part-starts : rows_of (closed daily due_in_part) ≡ (0 ∷ 95 ∷ 85 ∷ 95 ∷ 190 ∷ []) ∷ (7 ∷ 95 ∷ 1825 ∷ 500 ∷ 4 ∷ 5 ∷ 4 ∷ []) ∷ []
unfolding every_rule last_book last_table
part-starts = refl

-- the clients' payment failed today, and the status is normal still; their 1,000,000 wait
abbrev due_not_paid : List Entry
due_not_paid =
    cover180
    then (Some (FundOut Client (fen 3000000)) ∷ post 3 1 3650 1000 ∷ initial_of 3 100 7 2 ∷ next_morning)
    then (post 3 3 1825 500 ∷ Some Pay ∷ [])

pub not-paid-starts : rows_of (closed daily due_not_paid) ≡ (0 ∷ 100 ∷ 80 ∷ 100 ∷ 999900 ∷ []) ∷ (7 ∷ 100 ∷ 1825 ∷ 500 ∷ 3 ∷ 5 ∷ 4 ∷ []) ∷ []
unfolding every_rule last_book last_table
not-paid-starts = refl

-- ---- headroom, judged for each in table order

-- 60, 80 and 40 sheets are due, V has fallen to 126, and 100 units arrive this evening
abbrev due_together : List Entry
due_together =
    cover180
    then (post 3 1 3650 1000 ∷ initial_of 3 60 7 2 ∷ initial_of 3 80 8 2 ∷ initial_of 3 40 9 2 ∷ next_morning)
    then (post 3 3 1825 500 ∷ Some (Freeze 0 60) ∷ Some (Pledge 0 100) ∷ Some Pay ∷ [])

-- 60 start; 80 beside them are too many, whatever arrives, and leave; 40 still start. V is 216 then, and headroom 116.
pub term-lacks-headroom : rows_of (closed daily due_together) ≡
    (0 ∷ 180 ∷ 116 ∷ 100 ∷ 800180 ∷ [])
    ∷ (7 ∷ 60 ∷ 1825 ∷ 500 ∷ 3 ∷ 5 ∷ 4 ∷ [])
    ∷ (9 ∷ 40 ∷ 1825 ∷ 500 ∷ 3 ∷ 5 ∷ 4 ∷ [])
    ∷ []
unfolding every_rule last_book last_table
term-lacks-headroom = refl

-- the slot that is freed is zero in every field, the product too
pub freed-slot-is-zero : map record_row (take 3 (closed daily due_together).table) ≡
    (7 ∷ 60 ∷ 1825 ∷ 500 ∷ 3 ∷ 5 ∷ 4 ∷ [])
    ∷ (9 ∷ 40 ∷ 1825 ∷ 500 ∷ 3 ∷ 5 ∷ 4 ∷ [])
    ∷ (0 ∷ 0 ∷ 0 ∷ 0 ∷ 0 ∷ 0 ∷ 0 ∷ [])
    ∷ []
unfolding every_rule last_book last_table
freed-slot-is-zero = refl

-- 100 and 20 sheets are due, and V has fallen to 54: the first is too big, and the second starts all the same
abbrev due_first_too_big : List Entry
due_first_too_big =
    cover180
    then (post 3 1 3650 1000 ∷ initial_of 3 100 7 2 ∷ initial_of 3 20 8 2 ∷ next_morning)
    then (post 3 3 1825 500 ∷ Some (Freeze 0 140) ∷ Some Pay ∷ [])

pub first-too-big : rows_of (closed daily due_first_too_big) ≡ (0 ∷ 120 ∷ 34 ∷ 20 ∷ 1000120 ∷ []) ∷ (8 ∷ 20 ∷ 1825 ∷ 500 ∷ 3 ∷ 5 ∷ 4 ∷ []) ∷ []
unfolding every_rule last_book last_table
first-too-big = refl

-- ---- terms that do not start: what matures leaves the table

-- posted on day 1 only
abbrev due_unposted : List Entry
due_unposted = begun100 then (Some Pay ∷ [])

-- due on day 2 + 5, after which no day trades; on day 2 + 4 it would pass rule 9
abbrev due_in : (term : ℕ) → List Entry
due_in term = begun100 then (post 3 term 1825 500 ∷ Some Pay ∷ [])

-- suspended on the due day: the clients' payment failed the day before
abbrev due_suspended : List Entry
due_suspended =
    cover180
    then (Some (FundOut Client (fen 3000000)) ∷ post 3 1 3650 1000 ∷ initial_of 3 100 7 3 ∷ next_morning)
    then next_morning
    then (post 3 2 1825 500 ∷ Some Pay ∷ [])

-- redeemed early in full on the day before: on the due day no record is left
abbrev due_redeemed : List Entry
due_redeemed =
    (cover180 then (post 3 1 3650 1000 ∷ initial_of 3 100 7 3 ∷ []) then next_morning)
    then (post 3 1 1825 500 ∷ Some (Early (record { 0 = 7 }) (sheets 100) (ticks 3650)) ∷ next_morning)
    then (post 3 2 1825 500 ∷ Some Pay ∷ [])

pub terms-stay-matured : rows_of (closed daily due_unposted) ++ rows_of (closed daily (due_in 5)) ++ rows_of (closed daily due_suspended) ++ rows_of (closed daily due_redeemed) ≡
    (0 ∷ 100 ∷ 180 ∷ 0 ∷ 1000100 ∷ [])
    ∷ (0 ∷ 100 ∷ 180 ∷ 0 ∷ 1000100 ∷ [])
    ∷ (0 ∷ 100 ∷ 180 ∷ 0 ∷ 200 ∷ [])
    ∷ (0 ∷ 0 ∷ 180 ∷ 0 ∷ 0 ∷ [])
    ∷ []
unfolding every_rule last_book last_table
terms-stay-matured = refl

pub latest-term-starts : rows_of (closed daily (due_in 4)) ≡ (0 ∷ 100 ∷ 80 ∷ 100 ∷ 100 ∷ []) ∷ (7 ∷ 100 ∷ 1825 ∷ 500 ∷ 3 ∷ 6 ∷ 4 ∷ []) ∷ []
unfolding every_rule last_book last_table
latest-term-starts = refl

-- ---- beside U (02, asks 2 and 4): a started term's sheets are outstanding, and what matured is unpaid all the same

-- applications done and dropped, O and U
abbrev evening_row : Outcome → List ℕ
evening_row left =
    left.answer.done ∷ left.answer.dropped ∷ outstanding_of left.book left.table ∷ unpaid_of left.book ∷ []

abbrev due_with_application : List Entry
due_with_application = begun100 then (post 3 3 1825 500 ∷ Some (Withdraw 0 1) ∷ Some Pay ∷ [])

-- headroom is 80 of 180, and still not one unit goes: the pledge answers for 100 sheets and 1,000,100 fen
pub started-and-unpaid : evening_row (closed daily due_with_application) ≡ 0 ∷ 1 ∷ 100 ∷ 1000100 ∷ []
unfolding every_rule last_book last_table
started-and-unpaid = refl
