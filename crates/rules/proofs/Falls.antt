-- Ledgers that fall by demand 3 over one journal, each with one book and one thing wrong; by the rules the same journal meets it.
-- A ledger that has a memory is no rule of `step`, so it is told here by what is seen on it. (01, Agreed between us)
-- Assumes nothing.
use mathlib.Core.Path.{◌≡◌, refl, sym, ap, ◌∙◌}
use mathlib.Core.Bool.{Bool, true, false, not, cond, ◌&&◌, ◌||◌}
use mathlib.Core.List.{List, [], ◌∷◌}
use Prim.Native.Nat.{◌≤◌}
use native.Mathlib.Omega.{arith}
use borrow.Author.Tests.{not-true}
use lib.Dec.{eqb}
use lib.IntN.{ℤ, pos, negsuc, nat_abs, ◌-ℤ◌}
use Rattle.rules.specs.Book.{FailedRun, NotFailed, FailedOnce, FailedTwice, Book, fresh_book, answer, with_cash, with_standing, with_postings}
use Rattle.rules.specs.Trades.{Trade}
use Rattle.rules.specs.Entry.{Open, Pay, Close, Entry, Some}
use Rattle.rules.specs.Step.{Outcome, outcome, step}
use Rattle.rules.specs.Run.{Seen, see, run, Follows, last_book, last_table}
use Rattle.rules.specs.Tally.{Tally, blank, counted, tell, tally_of}
use Rattle.rules.specs.Demand3.{is_open, is_pay, told, told_of, PaymentRight, AllBeside, money_moved, seen_from, tally_beside, outstanding_after, Demand3}
use Rattle.money.proofs.TwoTests.{both}
use Rattle.rules.proofs.Opened.{every_rule}
use Rattle.rules.proofs.Demand3Proof.{demand3}
use Rattle.rules.proofs.Cases.{◌then◌, no_trades, daily, initial, cover180, failed_twice}
use Rattle.rules.proofs.NextTermCases.{begun100}

-- ---- a ledger of any kind: what it remembers beside the book and the table, and what it leaves of an entry

pub record Ledger : Type 1 where
  pub Memory : Type 0
  pub first : Memory
  pub leaves : Memory → Book → List Trade → Entry → Outcome
  pub recalls : Memory → Book → List Trade → Entry → Memory

-- what is seen on it
abbrev pub seen_with : (ledger : Ledger) → ledger.Memory → Book → List Trade → List Entry → List Seen
seen_with ledger memory book table [] = []
seen_with ledger memory book table (entry ∷ entries) =
    let left = ledger.leaves memory book table entry in
    record { book = book; table = table; entry = entry; left = left }
    ∷ seen_with ledger (ledger.recalls memory book table entry) left.book left.table entries

abbrev pub seen_on : Ledger → List Entry → List Seen
seen_on ledger entries = seen_with ledger ledger.first fresh_book no_trades entries

-- whatever it leaves, each entry meets what the last one left
pub keeps-one-book : (ledger : Ledger) (memory : ledger.Memory) (book : Book) (table : List Trade) (entries : List Entry)
    → Follows book table (seen_with ledger memory book table entries)
keeps-one-book ledger memory book table [] = tt
keeps-one-book ledger memory book table (entry ∷ entries) =
    let left = ledger.leaves memory book table entry in
    (refl, refl, keeps-one-book ledger (ledger.recalls memory book table entry) left.book left.table entries)

abbrev begun_less_redeemed : List Seen → ℤ
begun_less_redeemed list =
    let tally = tally_beside daily no_trades list in
    pos tally.begun -ℤ pos tally.redeemed

-- ---- the journal: every day trades

-- 100 and 50 sheets are begun on day 1, 90 more are refused; they are paid on day 2, and the 100 mature
abbrev first_batch : List Entry
first_batch =
    cover180
    then (initial 100 7 3650 1000 2 ∷ initial 90 8 3650 1000 6 ∷ initial 50 9 3650 1000 6 ∷ [])
    then (Some Pay ∷ Some Close ∷ Some Open ∷ [])
    then (Some Pay ∷ Some Close ∷ Some Open ∷ [])

-- the second batch, 1,000,100 fen from own to client, is paid on day 3
abbrev two_batches : List Entry
two_batches = first_batch then (Some Pay ∷ [])

-- ---- by the rules

pub keeping-the-rules-stands : Demand3 daily no_trades (seen_from daily no_trades two_batches)
keeping-the-rules-stands = demand3 daily no_trades two_batches

-- ---- "pays the first batch truly and later only says paid"

-- it remembers whether a Pay has moved money
abbrev moves_at : Book → Entry → (left : Outcome) → Bool
moves_at book entry left = is_pay entry && not (eqb book.cash.own.0 left.book.cash.own.0)

abbrev pub only_says_paid : Ledger
only_says_paid = record {
  Memory = Bool;
  first = false;
  leaves = λ paid book table entry.
      let left = step daily book table entry in
      outcome left.answer (with_cash (cond (paid && is_pay entry) book.cash left.book.cash) left.book) left.table;
  recalls = λ paid book table entry. paid || moves_at book entry (step daily book table entry);
}

-- by the rules, no Pay comes after one that moves money
quiet : (paid : Bool) → List Seen → Bool
quiet paid [] = true
quiet paid (seen ∷ more) = not (paid && is_pay seen.entry) && quiet (paid || moves_at seen.book seen.entry seen.left) more

true-while-quiet : (entries : List Entry) (paid : Bool) (book : Book) (table : List Trade) → quiet paid (run daily book table entries) ≡ true
    → seen_with only_says_paid paid book table entries ≡ run daily book table entries
unfolding quiet run
true-while-quiet [] paid book table q = refl
true-while-quiet (entry ∷ entries) paid book table q =
    let left : Outcome = step daily book table entry in
    let h = both (not (paid && is_pay entry)) _ q in
    let later = true-while-quiet entries (paid || moves_at book entry left) left.book left.table h.1 in
    rw (not-true (paid && is_pay entry) h.0) (ap (λ more. see daily book table entry ∷ more) later)

pub true-until-the-second-batch : seen_on only_says_paid first_batch ≡ seen_from daily no_trades first_batch
unfolding every_rule quiet
true-until-the-second-batch = true-while-quiet first_batch false fresh_book no_trades refl

-- 1,500,000 fen came from client to own, and 1,000,100 are told as paid back
pub moved-and-told : (money_moved (seen_on only_says_paid two_batches) ≡ negsuc 1499999)
    × ((tally_beside daily no_trades (seen_on only_says_paid two_batches)).paid ≡ negsuc 499899)
unfolding every_rule told_of counted tell tally_of money_moved
moved-and-told = (refl, refl)

-- "moved money, demand 3"
pub only-saying-paid-falls : Demand3 daily no_trades (seen_on only_says_paid two_batches) → ⊥
only-saying-paid-falls claim =
    let same : negsuc 1499999 ≡ negsuc 499899 = sym moved-and-told.0 ∙ claim.money-moved-is-paid ∙ moved-and-told.1 in
    omega (arith, ap nat_abs same)

-- the claim about the last entry of a list
LastBeside : Book → List Trade → Tally → List Seen → Type 0
LastBeside book table t [] = Unit {0}
LastBeside book table t (seen ∷ []) = PaymentRight t seen
LastBeside book table t (seen ∷ next ∷ more) =
    let ruled = see daily book table seen.entry in
    LastBeside ruled.left.book ruled.left.table (tell daily t (told daily ruled seen)) (next ∷ more)

the-last-too : (book : Book) (table : List Trade) (t : Tally) (list : List Seen) → AllBeside daily PaymentRight book table t list
    → LastBeside book table t list
unfolding LastBeside
the-last-too book table t [] claim = tt
the-last-too book table t (seen ∷ []) claim = claim.0
the-last-too book table t (seen ∷ next ∷ more) claim =
    let ruled = see daily book table seen.entry in
    the-last-too ruled.left.book ruled.left.table (tell daily t (told daily ruled seen)) (next ∷ more) claim.1

enough : 1000100 ≤ 6500000
enough = omega arith

not-fallen : pos 6500000 ≡ pos 5499900 → ⊥
not-fallen e = omega (arith, ap nat_abs e)

-- and the payment is neither whole nor nothing: own holds what is due, and does not fall by it
pub only-saying-paid-is-not-whole : AllBeside daily PaymentRight fresh_book no_trades blank (seen_on only_says_paid two_batches) → ⊥
unfolding every_rule counted tell LastBeside
only-saying-paid-is-not-whole claim =
    let payment = the-last-too fresh_book no_trades blank (seen_on only_says_paid two_batches) claim in
    not-fallen ((payment tt tt).whole enough).1

-- ---- "answers 0 always, or stores nothing": the sheets of demand 3

-- it keeps book and table by the rules, and says 0 of every entry
abbrev pub answers_zero : Ledger
answers_zero = record {
  Memory = Unit {0};
  first = tt;
  leaves = λ none book table entry. let left = step daily book table entry in outcome (answer 0) left.book left.table;
  recalls = λ none book table entry. tt;
}

-- it remembers what the rules would leave and answers by that, and leaves book and table as they were
abbrev pub stores_nothing : Ledger
stores_nothing = record {
  Memory = Outcome;
  first = outcome (answer 0) fresh_book no_trades;
  leaves = λ kept book table entry. outcome (step daily kept.book kept.table entry).answer book table;
  recalls = λ kept book table entry. step daily kept.book kept.table entry;
}

-- O, and begun less redeemed: 90 sheets that were refused are told as begun; 50 that are begun are on no table
pub sheets-differ : (outstanding_after no_trades (seen_on answers_zero two_batches) ≡ 50)
    × (begun_less_redeemed (seen_on answers_zero two_batches) ≡ pos 140)
    × (outstanding_after no_trades (seen_on stores_nothing two_batches) ≡ 0)
    × (begun_less_redeemed (seen_on stores_nothing two_batches) ≡ pos 50)
unfolding every_rule told_of counted tell tally_of last_book last_table
sheets-differ = (refl, refl, refl, refl)

pub answering-zero-falls : Demand3 daily no_trades (seen_on answers_zero two_batches) → ⊥
answering-zero-falls claim =
    let same : pos 50 ≡ pos 140 = sym (ap pos sheets-differ.0) ∙ claim.outstanding-is-begun-less-redeemed ∙ sheets-differ.1 in
    omega (arith, ap nat_abs same)

pub storing-nothing-falls : Demand3 daily no_trades (seen_on stores_nothing two_batches) → ⊥
storing-nothing-falls claim =
    let same : pos 0 ≡ pos 50 = sym (ap pos sheets-differ.2) ∙ claim.outstanding-is-begun-less-redeemed ∙ sheets-differ.3 in
    omega (arith, ap nat_abs same)

-- ---- the status is the rules' own, not the ledger's: one that never turns terminated

-- it forgets the second of two failed payments
abbrev once_at_most : FailedRun → FailedRun
once_at_most NotFailed = NotFailed
once_at_most FailedOnce = FailedOnce
once_at_most FailedTwice = FailedOnce

abbrev forgetful : Book → Book
forgetful book =
    let s = book.standing in
    with_standing (record { day = s.day; phase = s.phase; status = s.status; failed = once_at_most s.failed; short = s.short }) book

abbrev pub never_terminates : Ledger
never_terminates = record {
  Memory = Unit {0};
  first = tt;
  leaves = λ none book table entry. step daily (forgetful book) table entry;
  recalls = λ none book table entry. tt;
}

-- the day after two failed payments
abbrev third_opening : List Entry
third_opening = failed_twice then (Some Open ∷ [])

-- its trade stands, which by the rules is redeemed
pub left-and-redeemed : (outstanding_after no_trades (seen_on never_terminates third_opening) ≡ 100)
    × (begun_less_redeemed (seen_on never_terminates third_opening) ≡ pos 0)
unfolding every_rule told_of counted tell tally_of last_book last_table
left-and-redeemed = (refl, refl)

pub never-terminating-falls : Demand3 daily no_trades (seen_on never_terminates third_opening) → ⊥
never-terminating-falls claim =
    let same : pos 100 ≡ pos 0 = sym (ap pos left-and-redeemed.0) ∙ claim.outstanding-is-begun-less-redeemed ∙ left-and-redeemed.1 in
    omega (arith, ap nat_abs same)

-- ---- the started terms are the rules' own too: one that keeps what was posted over an Open (02, ask 4)

abbrev pub keeps_postings : Ledger
keeps_postings = record {
  Memory = Unit {0};
  first = tt;
  leaves = λ none book table entry.
      let left = step daily book table entry in
      outcome left.answer (with_postings (cond (is_open entry) book.postings left.book.postings) left.book) left.table;
  recalls = λ none book table entry. tt;
}

-- the product was posted on the day before alone
abbrev due_unposted : List Entry
due_unposted = begun100 then (Some Pay ∷ Some Close ∷ [])

-- a next term stands, which by the rules did not start
pub started-and-not-told : (outstanding_after no_trades (seen_on keeps_postings due_unposted) ≡ 100)
    × (begun_less_redeemed (seen_on keeps_postings due_unposted) ≡ pos 0)
unfolding every_rule told_of counted tell tally_of last_book last_table
started-and-not-told = (refl, refl)

pub keeping-postings-falls : Demand3 daily no_trades (seen_on keeps_postings due_unposted) → ⊥
keeping-postings-falls claim =
    let same : pos 100 ≡ pos 0 = sym (ap pos started-and-not-told.0) ∙ claim.outstanding-is-begun-less-redeemed ∙ started-and-not-told.1 in
    omega (arith, ap nat_abs same)
