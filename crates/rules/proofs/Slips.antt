-- What the other laws would let slip, shown case by case: the slips of document 01, the runs, withdrawals and the numbers around them.
-- Assumes nothing.
use mathlib.Core.Path.{◌≡◌, refl}
use mathlib.Core.Bool.{cond}
use mathlib.Core.List.{List, [], ◌∷◌, map}
use Prim.Native.Nat.{ℕ, ◌+◌}
use lib.Dec.{eqb}
use lib.IntN.{nat_abs}
use lib.ListN.{replicate, drop, length}
use Rattle.money.specs.Units.{fen, sheets, ticks}
use Rattle.money.specs.Days.{Calendar}
use Rattle.rules.specs.Book.{FailedOnce, FailedTwice, ShortOnce, ShortTwice, ShortThrice}
use Rattle.rules.specs.Vault.{headroom}
use Rattle.rules.specs.Entry.{Own, Client, Open, FundIn, FundOut, Size, Rate, Pledge, Freeze, Withdraw, Early, Pay, Close, Entry, Some, None, Fields, unless, entry_of, code_of}
use Rattle.rules.specs.Pay.{failed_more}
use Rattle.rules.specs.Close.{short_more}
use Rattle.rules.specs.Run.{Seen}
use Rattle.rules.specs.Demand3.{seen_from}
use Rattle.rules.proofs.StatusAsBefore.{failed_runs, short_runs}
use Rattle.rules.proofs.Opened.{every_rule}
use Rattle.rules.proofs.Cases.{◌then◌, no_trades, daily, initial, cover180, failed_once}

-- ---- the runs: "at most to 2", "at most to 3"

pub runs-grow-to-their-ends : (map failed_more failed_runs ≡ FailedOnce ∷ FailedTwice ∷ FailedTwice ∷ []) × (map short_more short_runs ≡ ShortOnce ∷ ShortTwice ∷ ShortThrice ∷ ShortThrice ∷ [])
runs-grow-to-their-ends = (refl, refl)

-- ---- journals, told by rows: the answer's number, applications done and dropped, the size of headroom, own cash

abbrev row_of : Seen → List ℕ
row_of seen =
    seen.left.answer.number
    ∷ seen.left.answer.done
    ∷ seen.left.answer.dropped
    ∷ nat_abs (headroom seen.left.book seen.left.table)
    ∷ seen.left.book.cash.own.0
    ∷ []

-- the rows of some entries after others; who opens this opens every rule, so that it computes
unfoldable pub rows_by : (Seen → List ℕ) → Calendar → (earlier entries : List Entry) → List (List ℕ)
unfolding every_rule
rows_by row calendar earlier entries = map row (drop (length earlier) (seen_from calendar no_trades (earlier then entries)))

abbrev rows_after : Calendar → (earlier entries : List Entry) → List (List ℕ)
rows_after = rows_by row_of

abbrev early : (contract : ℕ) → Entry
early contract = Some (Early (record { 0 = contract }) (sheets 10) (ticks 1825))

-- frozen units do not count; kind 32 has no rate to set, kind 33 is no kind; a refused Close carries 0 for all; what does not decode is 2
pub units-and-kinds : rows_after daily cover180 (Some (Freeze 0 50) ∷ Some (Rate 32 9000) ∷ Some (Rate 31 9000) ∷ Some (Pledge 33 1) ∷ Some Close ∷ None ∷ []) ≡
    (0 ∷ 0 ∷ 0 ∷ 135 ∷ 5000000 ∷ [])
    ∷ (3 ∷ 0 ∷ 0 ∷ 135 ∷ 5000000 ∷ [])
    ∷ (0 ∷ 0 ∷ 0 ∷ 135 ∷ 5000000 ∷ [])
    ∷ (3 ∷ 0 ∷ 0 ∷ 135 ∷ 5000000 ∷ [])
    ∷ (4 ∷ 0 ∷ 0 ∷ 135 ∷ 5000000 ∷ [])
    ∷ (2 ∷ 0 ∷ 0 ∷ 135 ∷ 5000000 ∷ [])
    ∷ []
unfolding rows_by
units-and-kinds = refl

-- thirteen words in which every day trades: 365 days ahead and more
abbrev year : Calendar
year = replicate 13 4294967295

abbrev due_in : ℕ → Entry
due_in days = initial 10 7 3650 1000 (1 + days)

-- 15 sheets are no multiple of 10, 10 are done; due 366 days ahead does not fit, nor does today, 365 does
pub sheets-and-terms : rows_after year cover180 (initial 15 7 3650 1000 4 ∷ initial 10 8 3650 1000 4 ∷ due_in 366 ∷ due_in 0 ∷ due_in 365 ∷ []) ≡
    (7 ∷ 0 ∷ 0 ∷ 180 ∷ 5000000 ∷ [])
    ∷ (0 ∷ 0 ∷ 0 ∷ 170 ∷ 5000000 ∷ [])
    ∷ (9 ∷ 0 ∷ 0 ∷ 170 ∷ 5000000 ∷ [])
    ∷ (9 ∷ 0 ∷ 0 ∷ 170 ∷ 5000000 ∷ [])
    ∷ (0 ∷ 0 ∷ 0 ∷ 160 ∷ 5000000 ∷ [])
    ∷ []
unfolding rows_by
sheets-and-terms = refl

-- a suspended firm begins no trade, and may redeem early what is on its table
pub suspended : rows_after daily failed_once (Some Open ∷ initial 10 8 3650 1000 6 ∷ early 9 ∷ early 7 ∷ []) ≡
    (0 ∷ 0 ∷ 0 ∷ 80 ∷ 5000000 ∷ [])
    ∷ (6 ∷ 0 ∷ 0 ∷ 80 ∷ 5000000 ∷ [])
    ∷ (10 ∷ 0 ∷ 0 ∷ 80 ∷ 5000000 ∷ [])
    ∷ (0 ∷ 0 ∷ 0 ∷ 90 ∷ 5000000 ∷ [])
    ∷ []
unfolding rows_by
suspended = refl

-- 200 units of kind 0 and 10,000 fen of guarantee cash count from day 1 on
abbrev with_cash : List Entry
with_cash =
    Some (Size (sheets 1000))
    ∷ Some (FundIn Own (fen 5000000))
    ∷ Some (FundIn Client (fen 3000000))
    ∷ Some (Rate 0 9000)
    ∷ Some Open
    ∷ Some (Pledge 0 200)
    ∷ Some (Pledge 32 10000)
    ∷ Some Pay
    ∷ Some Close
    ∷ Some Open
    ∷ []

-- on the due day it is too late to redeem early
pub due : rows_after daily (with_cash then (initial 100 7 3650 1000 2 ∷ Some Pay ∷ Some Close ∷ Some Open ∷ [])) (early 7 ∷ []) ≡
    (9 ∷ 0 ∷ 0 ∷ 81 ∷ 4990000 ∷ [])
    ∷ []
unfolding rows_by
due = refl

-- 100 sheets stand, and three applications: the second asks for more than cover allows
abbrev applied3 : List Entry
applied3 = with_cash then (initial 100 7 3650 1000 6 ∷ Some (Withdraw 0 50) ∷ Some (Withdraw 0 100) ∷ Some (Withdraw 32 10000) ∷ Some Pay ∷ [])

-- withdrawals: done, dropped for want of cover, done; cash goes to own
pub withdrawals : rows_after daily applied3 (Some Close ∷ []) ≡
    (0 ∷ 2 ∷ 1 ∷ 35 ∷ 5000000 ∷ [])
    ∷ []
unfolding rows_by
withdrawals = refl

-- an application on a day whose payment failed
abbrev applied_not_paid : List Entry
applied_not_paid =
    with_cash
    then (Some (FundOut Client (fen 3000000)) ∷ initial 100 7 3650 1000 6 ∷ Some Pay ∷ Some Close ∷ Some Open ∷ Some (Withdraw 0 50) ∷ Some Pay ∷ [])

-- on such a day every application is dropped
pub not-paid : rows_after daily applied_not_paid (Some Close ∷ []) ≡
    (0 ∷ 0 ∷ 1 ∷ 81 ∷ 4990000 ∷ [])
    ∷ []
unfolding rows_by
not-paid = refl

-- ---- "Byte 0 code": a code is read back from the event that it gives, and what is no code gives none

abbrev bare : ℕ → Fields
bare code = record { code = code; kind = 0; product = 0; spare = 0; amount = 0; contract = 0; price = 0; fallback = 0; due = 0; last = 0 }

pub codes-read-back : map (λ code. code_of (entry_of (bare code))) (0 ∷ 1 ∷ 2 ∷ 3 ∷ 4 ∷ 5 ∷ 6 ∷ 7 ∷ 8 ∷ 9 ∷ 10 ∷ 11 ∷ 12 ∷ 13 ∷ 14 ∷ []) ≡ (0 ∷ 1 ∷ 2 ∷ 3 ∷ 4 ∷ 5 ∷ 6 ∷ 7 ∷ 8 ∷ 9 ∷ 10 ∷ 11 ∷ 12 ∷ 13 ∷ 0 ∷ [])
unfolding entry_of unless
codes-read-back = refl

-- 1 in one of the other fields, told by its place: kind, product, spare, amount, contract, price, fallback, due, last
abbrev with_one : (code place : ℕ) → Fields
with_one code place = record {
  code = code;
  kind = cond (eqb place 0) 1 0;
  product = cond (eqb place 1) 1 0;
  spare = cond (eqb place 2) 1 0;
  amount = cond (eqb place 3) 1 0;
  contract = cond (eqb place 4) 1 0;
  price = cond (eqb place 5) 1 0;
  fallback = cond (eqb place 6) 1 0;
  due = cond (eqb place 7) 1 0;
  last = cond (eqb place 8) 1 0;
}

-- an initial trade uses the product and all others but kind; Post uses kind, amount and both prices
pub fields-of-trades-and-postings : (map (λ place. code_of (entry_of (with_one 9 place))) (0 ∷ 1 ∷ 2 ∷ 3 ∷ 4 ∷ 5 ∷ 6 ∷ 7 ∷ 8 ∷ []) ≡ (0 ∷ 9 ∷ 0 ∷ 9 ∷ 9 ∷ 9 ∷ 9 ∷ 9 ∷ 0 ∷ []))
    × (map (λ place. code_of (entry_of (with_one 13 place))) (0 ∷ 1 ∷ 2 ∷ 3 ∷ 4 ∷ 5 ∷ 6 ∷ 7 ∷ 8 ∷ []) ≡ (13 ∷ 0 ∷ 0 ∷ 13 ∷ 0 ∷ 13 ∷ 13 ∷ 0 ∷ 0 ∷ []))
unfolding entry_of unless
fields-of-trades-and-postings = (refl, refl)

-- no other event uses the product
pub product-of-trades-alone : map (λ code. code_of (entry_of (with_one code 1))) (1 ∷ 2 ∷ 3 ∷ 4 ∷ 5 ∷ 6 ∷ 7 ∷ 8 ∷ 9 ∷ 10 ∷ 11 ∷ 12 ∷ 13 ∷ []) ≡ (0 ∷ 0 ∷ 0 ∷ 0 ∷ 0 ∷ 0 ∷ 0 ∷ 0 ∷ 9 ∷ 0 ∷ 0 ∷ 0 ∷ 0 ∷ [])
unfolding entry_of unless
product-of-trades-alone = refl
