-- Demand 3: over every list of entries put to a fresh book, the book and the tally agree, and each entry is right.
-- The claim is the record Demand3 of specs/Demand3. Assumes nothing.
use mathlib.Core.Path.{◌≡◌, refl, sym, ap, ◌∙◌}
use mathlib.Core.Bool.{Bool, true, false, cond, ◌&&◌}
use mathlib.Core.List.{List, [], ◌∷◌}
use mathlib.Core.Option.{Option, none, some}
use Prim.Native.Nat.{ℕ, zero, suc}
use native.Mathlib.Omega.{arith}
use lib.IntN.{pos, ◌+ℤ◌, ◌-ℤ◌, +ℤ_assoc, +ℤ_idl, +ℤ_idr}
use Rattle.money.specs.Causes.{first_of}
use Rattle.money.specs.Days.{Calendar}
use Rattle.rules.specs.Book.{Book, fresh_book}
use Rattle.rules.specs.Trades.{Trade, total, outstanding, remaining}
use Rattle.rules.specs.Entry.{Open, FundIn, FundOut, Size, Rate, Pledge, Freeze, Withdraw, Initial, Early, Pay, Close, Post, Entry, Some, None}
use Rattle.rules.specs.Step.{causes, act_on, refuse_or, step, accepted}
use Rattle.rules.specs.Run.{Seen, see, run, Follows, last_book, last_table}
use Rattle.rules.specs.Tally.{Tally, blank, tell, tally_of}
use Rattle.rules.specs.Demand3.{told, told_of, is_pay, InitialCovered, StartsCovered, PaymentRight, All, AllTold, AllBeside, moved_at, money_moved, seen_from, tally_beside, Demand3}
use Rattle.rules.proofs.Signed.{same, diff-parts}
use Rattle.rules.proofs.Answers.{turned_down}
use Rattle.rules.proofs.Accepted.{Clear, all-clear}
use Rattle.rules.proofs.Agree.{view, Agrees, Right}
use Rattle.rules.proofs.EventsAgree.{at_open, at-fund_in, at-fund_out, at_size, at-rate, at-pledge, at-freeze, at-withdraw, at-initial, at-early, at-pay, at-close, at-post}

-- ---- one entry

no-if-second-fails : {A : Type 0} (x y : Bool) (a b : A) → y ≡ false → cond (x && y) a b ≡ b
no-if-second-fails true true a b e = let z : ◌≡◌ {A = ℕ} 0 1 = cc in absurd (omega arith)
no-if-second-fails true false a b e = refl
no-if-second-fails false y a b e = refl

module _ (calendar : Calendar) (book : Book) (table : List Trade) (t : Tally) (i : Agrees (view book table) t) where
  -- a refused entry changes nothing, and the tally passes it over
  refused-right : (entry : Entry) (n : ℕ) → accepted n ≡ false → Right calendar t (record { book = book; table = table; entry = entry; left = refuse_or (some n) book table (act_on calendar book table entry) })
  unfolding tell
  refused-right entry zero h = let z : ◌≡◌ {A = ℕ} 0 1 = cc in absurd (omega arith)
  refused-right entry (suc n) h = record {
    agrees = i;
    initial = λ p a. absurd (rw h at a);
    starts = λ p a. absurd (rw h at a);
    payment = λ p a. absurd (rw h at a);
    moves = rw (no-if-second-fails (is_pay entry) (accepted (suc n)) (pos book.cash.own.0 -ℤ pos book.cash.own.0) (pos 0) h) (+ℤ_idr t.paid);
  }

  accepted-right : (entry : Entry) → Clear (causes calendar book table entry) → Right calendar t (record { book = book; table = table; entry = entry; left = act_on calendar book table entry })
  unfolding causes
  accepted-right (Some Open) clear = at_open calendar book table t i clear
  accepted-right (Some (FundIn account amount)) clear = at-fund_in calendar book table t i account amount
  accepted-right (Some (FundOut account amount)) clear = at-fund_out calendar book table t i account amount clear
  accepted-right (Some (Size size)) clear = at_size calendar book table t i size
  accepted-right (Some (Rate kind rate)) clear = at-rate calendar book table t i kind rate
  accepted-right (Some (Pledge kind units)) clear = at-pledge calendar book table t i kind units clear
  accepted-right (Some (Freeze kind units)) clear = at-freeze calendar book table t i kind units
  accepted-right (Some (Withdraw kind units)) clear = at-withdraw calendar book table t i kind units
  accepted-right (Some (Initial terms)) clear = at-initial calendar book table t i terms clear
  accepted-right (Some (Early contract count price)) clear = at-early calendar book table t i contract count price clear
  accepted-right (Some Pay) clear = at-pay calendar book table t i
  accepted-right (Some Close) clear = at-close calendar book table t i clear
  accepted-right (Some (Post product posting)) clear = at-post calendar book table t i product posting
  accepted-right None clear = let applies : true ≡ false = clear 2 in let z : ◌≡◌ {A = ℕ} 0 1 = cc in absurd (omega arith)

  step_right : (entry : Entry) → Right calendar t (see calendar book table entry)
  unfolding step
  step_right entry = go (first_of (causes calendar book table entry)) refl
    where
      go : (o : Option ℕ) → first_of (causes calendar book table entry) ≡ o → Right calendar t (record { book = book; table = table; entry = entry; left = refuse_or o book table (act_on calendar book table entry) })
      go none e = accepted-right entry (all-clear (causes calendar book table entry) e)
      go (some n) e = refused-right entry n (turned_down calendar book table entry n e)

-- ---- a list of entries

record AllRight (calendar : Calendar) (book : Book) (table : List Trade) (t : Tally) (list : List Seen) : Type 0 where
  follows : Follows book table list
  agrees : Agrees (view (last_book book list) (last_table table list)) (tally_of calendar t (told_of calendar book table list))
  initials : All InitialCovered list
  starts : AllTold calendar StartsCovered book table list
  payments : AllBeside calendar PaymentRight book table t list
  moves : t.paid +ℤ money_moved list ≡ (tally_of calendar t (told_of calendar book table list)).paid

all_right : (calendar : Calendar) (entries : List Entry) (book : Book) (table : List Trade) (t : Tally) → Agrees (view book table) t
    → AllRight calendar book table t (run calendar book table entries)
unfolding run last_book last_table told_of tally_of money_moved
all_right calendar [] book table t i = record { follows = tt; agrees = i; initials = tt; starts = tt; payments = tt; moves = +ℤ_idr t.paid }
all_right calendar (entry ∷ entries) book table t i =
    let seen : Seen = see calendar book table entry in
    let next : Tally = tell calendar t (told calendar seen seen) in
    let more : List Seen = run calendar seen.left.book seen.left.table entries in
    let r : Right calendar t seen = step_right calendar book table t i entry in
    let k : AllRight calendar seen.left.book seen.left.table next more = all_right calendar entries seen.left.book seen.left.table next r.agrees in
    record {
      follows = (refl, refl, k.follows);
      agrees = k.agrees;
      initials = (r.initial, k.initials);
      starts = (r.starts, k.starts);
      payments = (r.payment, k.payments);
      moves = sym (+ℤ_assoc t.paid (moved_at seen) (money_moved more)) ∙ ap (λ sum. sum +ℤ money_moved more) r.moves ∙ k.moves;
    }

-- ---- demand 3

fresh-agrees : (table : List Trade) → Agrees (view fresh_book table) blank
unfolding fresh_book outstanding total remaining
fresh-agrees table = record { day = refl; rows = refl; cash = refl; sheets = refl; running = refl; cleared = refl; ended = λ h. refl }

pub demand3 : (calendar : Calendar) (table : List Trade) (entries : List Entry) → Demand3 calendar table (seen_from calendar table entries)
demand3 calendar table entries =
    let k = all_right calendar entries fresh_book table blank (fresh-agrees table) in
    let t : Tally = tally_beside calendar table (seen_from calendar table entries) in
    record {
      one-book = k.follows;
      cash-is-funds = k.agrees.cash;
      outstanding-is-begun-less-redeemed = same _ _ (omega (arith, k.agrees.sheets, diff-parts (pos t.begun) (pos t.redeemed)));
      initials-covered = k.initials;
      starts-covered = k.starts;
      payments-whole-or-nothing = k.payments;
      money-moved-is-paid = sym (+ℤ_idl (money_moved (seen_from calendar table entries))) ∙ k.moves;
    }
