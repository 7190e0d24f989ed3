-- The answer's number: the first cause that applies in the order of refusals, and 0 or 99 exactly where none does. (01, Turned-down events; 02, ask 4)
-- Assumes nothing.
use mathlib.Core.Path.{◌≡◌, refl, sym, ap, ◌∙◌}
use mathlib.Core.Bool.{Bool, true, false, false≢true, cond, not, ◌||◌}
use mathlib.Core.List.{List, [], ◌∷◌, map}
use mathlib.Core.Option.{Option, none, some}
use Prim.Native.Nat.{ℕ, ◌<◌}
use native.Mathlib.Omega.{arith}
use borrow.Author.Tests.{not-true, eqb-false, ltb-true}
use lib.Dec.{ltb, eqb}
use lib.ListN.{length}
use Rattle.money.specs.Causes.{Cause, ◌⇒◌, first_of, number_of}
use Rattle.money.specs.Days.{Calendar}
use Rattle.money.proofs.Smallest.{rising, Least, least-cause}
use Rattle.rules.specs.Book.{Book}
use Rattle.rules.specs.Trades.{Trade}
use Rattle.rules.specs.Entry.{Event, Open, FundIn, FundOut, Size, Rate, Pledge, Freeze, Withdraw, Initial, Early, Pay, Close, Post, Entry, Some, None}
use Rattle.rules.specs.Open.{open_causes}
use Rattle.rules.specs.Funds.{fund_in_causes, fund_out_causes}
use Rattle.rules.specs.Size.{size_causes}
use Rattle.rules.specs.Rate.{rate_causes}
use Rattle.rules.specs.Pledge.{pledge_causes}
use Rattle.rules.specs.Freeze.{freeze_causes}
use Rattle.rules.specs.Withdraw.{withdraw_causes}
use Rattle.rules.specs.Initial.{initial_causes}
use Rattle.rules.specs.Early.{early_causes}
use Rattle.rules.specs.Pay.{pay_causes, pay_number, fails}
use Rattle.rules.specs.Post.{post_causes}
use Rattle.rules.specs.Close.{close_causes, close_answer}
use Rattle.rules.specs.Order.{order, place, placed, displaced}
use Rattle.rules.specs.Step.{event_causes, entry_causes, causes, act, act_on, refuse_or, step, accepted, unfit}
use Rattle.rules.proofs.FoldLaws.{neither}
use Rattle.rules.proofs.OrderLaws.{first-placed, by_size, least-by-size, Applies, given-applies}

-- ---- what is computed of the numbers of an event's causes: they stand in order, by size but for the displaced, and none is 0, 1 or 99

-- each number of some causes passes a test
abbrev pub numbers : (ℕ → Bool) → List Cause → Bool
numbers passes [] = true
numbers passes (c ∷ cs) = cond (passes c.number) (numbers passes cs) false

pub number-passes : (passes : ℕ → Bool) (cs : List Cause) (k : ℕ) → numbers passes cs ≡ true → first_of cs ≡ some k → passes k ≡ true
unfolding first_of
number-passes passes [] k p e = let z : ◌≡◌ {A = ℕ} 0 1 = cc in absurd (omega arith)
number-passes passes (c ∷ cs) k p e = go c.applies (passes c.number) refl (number-passes passes cs k) p e
  where
    go : (b z : Bool) → passes c.number ≡ z → (numbers passes cs ≡ true → first_of cs ≡ some k → passes k ≡ true)
        → cond z (numbers passes cs) false ≡ true → cond b (some c.number) (first_of cs) ≡ some k → passes k ≡ true
    go b false m f p e = let z : ◌≡◌ {A = ℕ} 0 1 = cc in absurd (omega arith)
    go true true m f p e = let h : c.number ≡ k = cc in ap passes (sym h) ∙ m
    go false true m f p e = f p e

-- 0 is no cause's number where all pass a test that 0 fails
pub none-at-0 : (p : ℕ → Bool) (cs : List Cause) (n : ℕ) → p 0 ≡ false → numbers p cs ≡ true → n ≡ number_of (first_of cs) → n ≡ 0 → first_of cs ≡ none
none-at-0 p cs n fails all e z = go (first_of cs) refl (sym e ∙ z)
  where
    go : (o : Option ℕ) → first_of cs ≡ o → number_of o ≡ 0 → o ≡ none
    go none m l = refl
    go (some k) m l =
        let passes : p 0 ≡ true = rw l at (number-passes p cs k all m) in
        let z : ◌≡◌ {A = ℕ} 0 1 = cc in absurd (omega arith)

-- a number that no event's cause has
abbrev pub unused : ℕ → Bool
unused k = eqb k 1 || accepted k

-- a number that the order has
abbrev pub in_order : ℕ → Bool
in_order k = ltb (place k) (length order)

-- all tests at once, so that the events are gone through once; of the causes that stand behind 1
pub record Computed (cs : List Cause) : Type 0 where
  pub ordered : rising 0 (map placed cs) ≡ true
  pub sized : by_size ((true ⇒ 1) ∷ cs) ≡ true
  pub listed : numbers in_order cs ≡ true
  pub known : numbers (λ k. not (unused k)) cs ≡ true

pub event-numbers : (calendar : Calendar) (book : Book) (table : List Trade) (event : Event) → Computed (event_causes calendar book table event)
unfolding event_causes open_causes fund_in_causes fund_out_causes size_causes rate_causes pledge_causes freeze_causes withdraw_causes initial_causes early_causes pay_causes close_causes post_causes
event-numbers calendar book table Open = record { ordered = refl; sized = refl; listed = refl; known = refl }
event-numbers calendar book table (FundIn account amount) = record { ordered = refl; sized = refl; listed = refl; known = refl }
event-numbers calendar book table (FundOut account amount) = record { ordered = refl; sized = refl; listed = refl; known = refl }
event-numbers calendar book table (Size size) = record { ordered = refl; sized = refl; listed = refl; known = refl }
event-numbers calendar book table (Rate kind rate) = record { ordered = refl; sized = refl; listed = refl; known = refl }
event-numbers calendar book table (Pledge kind units) = record { ordered = refl; sized = refl; listed = refl; known = refl }
event-numbers calendar book table (Freeze kind units) = record { ordered = refl; sized = refl; listed = refl; known = refl }
event-numbers calendar book table (Withdraw kind units) = record { ordered = refl; sized = refl; listed = refl; known = refl }
event-numbers calendar book table (Initial terms) = record { ordered = refl; sized = refl; listed = refl; known = refl }
event-numbers calendar book table (Early contract count price) = record { ordered = refl; sized = refl; listed = refl; known = refl }
event-numbers calendar book table Pay = record { ordered = refl; sized = refl; listed = refl; known = refl }
event-numbers calendar book table Close = record { ordered = refl; sized = refl; listed = refl; known = refl }
event-numbers calendar book table (Post product posting) = record { ordered = refl; sized = refl; listed = refl; known = refl }

entry-numbers : (calendar : Calendar) (book : Book) (table : List Trade) (entry : Entry) → Computed (entry_causes calendar book table entry)
entry-numbers calendar book table (Some event) = event-numbers calendar book table event
entry-numbers calendar book table None = record { ordered = refl; sized = refl; listed = refl; known = refl }

-- ---- the first number in order is given: nothing that applies stands before it

pub first-in-order : (calendar : Calendar) (book : Book) (table : List Trade) (entry : Entry) (k : ℕ) → first_of (causes calendar book table entry) ≡ some k
    → Least (place k) (map placed (causes calendar book table entry))
unfolding causes
first-in-order calendar book table entry k e =
    let cs = causes calendar book table entry in
    least-cause 0 (place k) (map placed cs) (entry-numbers calendar book table entry).ordered (first-placed cs k e)

-- it has a place there
pub given-in-order : (calendar : Calendar) (book : Book) (table : List Trade) (entry : Entry) (k : ℕ) → first_of (causes calendar book table entry) ≡ some k
    → place k < length order
unfolding causes
given-in-order calendar book table entry k e =
    ltb-true (place k) (length order) (number-passes in_order (causes calendar book table entry) k (entry-numbers calendar book table entry).listed e)

-- it is the smallest, unless it is displaced
pub smallest-cause : (calendar : Calendar) (book : Book) (table : List Trade) (entry : Entry) (k : ℕ) → first_of (causes calendar book table entry) ≡ some k → displaced k ≡ false
    → Least k (causes calendar book table entry)
unfolding causes
smallest-cause calendar book table entry k e stands =
    least-by-size k (causes calendar book table entry) (entry-numbers calendar book table entry).sized stands e

-- and a cause of that number applies
pub stated-cause : (calendar : Calendar) (book : Book) (table : List Trade) (entry : Entry) (k : ℕ) → first_of (causes calendar book table entry) ≡ some k
    → Applies k (causes calendar book table entry)
stated-cause calendar book table entry k e = given-applies (causes calendar book table entry) k e

-- ---- accepted exactly where no cause applies

-- an entry's own causes give neither 1 nor an accepted number
own-number : (calendar : Calendar) (book : Book) (table : List Trade) (entry : Entry) (k : ℕ) → first_of (entry_causes calendar book table entry) ≡ some k → (eqb k 1 ≡ false) × (accepted k ≡ false)
own-number calendar book table entry k e =
    let others = number-passes (λ k. not (unused k)) (entry_causes calendar book table entry) k (entry-numbers calendar book table entry).known e in
    neither (eqb k 1) (accepted k) (not-true (unused k) others)

-- so a refused entry is never taken for an accepted one
pub turned_down : (calendar : Calendar) (book : Book) (table : List Trade) (entry : Entry) (n : ℕ) → first_of (causes calendar book table entry) ≡ some n → accepted n ≡ false
unfolding causes first_of
turned_down calendar book table entry n e = go (unfit calendar book table) e
  where
    go : (first : Bool) → cond first (some 1) (first_of (entry_causes calendar book table entry)) ≡ some n → accepted n ≡ false
    go true e = let h : 1 ≡ n = cc in ap accepted (sym h)
    go false e = (own-number calendar book table entry n e).1

acted-accepted : (calendar : Calendar) (book : Book) (table : List Trade) (entry : Entry) → accepted (act_on calendar book table entry).answer.number ≡ true
unfolding act close_answer
acted-accepted calendar book table (Some Open) = refl
acted-accepted calendar book table (Some (FundIn account amount)) = refl
acted-accepted calendar book table (Some (FundOut account amount)) = refl
acted-accepted calendar book table (Some (Size size)) = refl
acted-accepted calendar book table (Some (Rate kind rate)) = refl
acted-accepted calendar book table (Some (Pledge kind units)) = refl
acted-accepted calendar book table (Some (Freeze kind units)) = refl
acted-accepted calendar book table (Some (Withdraw kind units)) = refl
acted-accepted calendar book table (Some (Initial terms)) = refl
acted-accepted calendar book table (Some (Early contract count price)) = refl
acted-accepted calendar book table (Some Pay) = paid (fails book)
  where
    paid : (failing : Bool) → accepted (pay_number failing) ≡ true
    paid true = refl
    paid false = refl
acted-accepted calendar book table (Some Close) = refl
acted-accepted calendar book table (Some (Post product posting)) = refl
acted-accepted calendar book table None = refl

pub accepted-where-none-applies : (calendar : Calendar) (book : Book) (table : List Trade) (entry : Entry) → first_of (causes calendar book table entry) ≡ none → accepted (step calendar book table entry).answer.number ≡ true
unfolding step
accepted-where-none-applies calendar book table entry e = rw e (acted-accepted calendar book table entry)

pub accepted-only-where-none-applies : (calendar : Calendar) (book : Book) (table : List Trade) (entry : Entry) → accepted (step calendar book table entry).answer.number ≡ true → first_of (causes calendar book table entry) ≡ none
unfolding step causes first_of
accepted-only-where-none-applies calendar book table entry a = go (unfit calendar book table) (first_of (entry_causes calendar book table entry)) refl a
  where
    go : (first : Bool) (others : Option ℕ) → first_of (entry_causes calendar book table entry) ≡ others
        → accepted (refuse_or (cond first (some 1) others) book table (act_on calendar book table entry)).answer.number ≡ true → cond first (some 1) others ≡ none
    go true others e a = let z : ◌≡◌ {A = ℕ} 0 1 = cc in absurd (omega arith)
    go false none e a = refl
    go false (some k) e a =
        let b = (own-number calendar book table entry k e).1 in
        let z : ◌≡◌ {A = ℕ} 0 1 = cc in absurd (omega arith)

-- and where one applies, nothing is changed
pub refused-leaves-all : (calendar : Calendar) (book : Book) (table : List Trade) (entry : Entry) → accepted (step calendar book table entry).answer.number ≡ false
    → ((step calendar book table entry).book ≡ book) × ((step calendar book table entry).table ≡ table)
unfolding step
refused-leaves-all calendar book table entry r = go (first_of (causes calendar book table entry)) r
  where
    go : (cause : Option ℕ) → accepted (refuse_or cause book table (act_on calendar book table entry)).answer.number ≡ false
        → ((refuse_or cause book table (act_on calendar book table entry)).book ≡ book) × ((refuse_or cause book table (act_on calendar book table entry)).table ≡ table)
    go none r = absurd (false≢true (sym r ∙ acted-accepted calendar book table entry))
    go (some number) r = (refl, refl)

-- ---- number 1 is given to an unfit book or a long calendar alone

pub never-1-where-fit : (calendar : Calendar) (book : Book) (table : List Trade) (entry : Entry) → unfit calendar book table ≡ false → (step calendar book table entry).answer.number ≡ 1 → ⊥
unfolding step causes first_of
never-1-where-fit calendar book table entry u a = go (first_of (entry_causes calendar book table entry)) refl (rw u at a)
  where
    go : (others : Option ℕ) → first_of (entry_causes calendar book table entry) ≡ others → (refuse_or others book table (act_on calendar book table entry)).answer.number ≡ 1 → ⊥
    go none e a =
        let b : accepted 1 ≡ true = ap accepted (sym a) ∙ acted-accepted calendar book table entry in
        let z : ◌≡◌ {A = ℕ} 0 1 = cc in omega arith
    go (some k) e a = eqb-false k 1 (own-number calendar book table entry k e).0 a
