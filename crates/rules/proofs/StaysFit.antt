-- A fresh book is fit, every step leaves a fit book, and so no run from a fresh book is answered 1. (01, The book; Turned-down events)
-- Assumes nothing.
use mathlib.Core.Path.{◌≡◌, refl}
use mathlib.Core.Bool.{Bool, true, false, cond}
use mathlib.Core.List.{List, [], ◌∷◌}
use mathlib.Core.Option.{Option, none, some}
use Prim.Native.Nat.{ℕ, ◌≤◌}
use native.Mathlib.Omega.{arith}
use borrow.Author.Tests.{le-ltb}
use lib.ListN.{length, get_or-replicate}
use Rattle.money.specs.Limits.{calendar_limit}
use Rattle.money.specs.Causes.{Cause, first_of}
use Rattle.money.specs.Days.{Calendar}
use Rattle.rules.specs.Book.{Book, no_security, fresh_book}
use Rattle.rules.specs.Trades.{Trade, outstanding, total, differ}
use Rattle.rules.specs.Fit.{all_trades, fit}
use Rattle.rules.specs.Entry.{Event, Open, FundIn, FundOut, Size, Rate, Pledge, Freeze, Withdraw, Initial, Early, Pay, Close, Post, Entry, Some, None}
use Rattle.rules.specs.Step.{event_causes, entry_causes, causes, act, act_on, refuse_or, step}
use Rattle.rules.specs.Run.{run}
use Rattle.rules.specs.Demand3.{All}
use Rattle.rules.proofs.FitParts.{Fit, fit_parts, parts-fit}
use Rattle.rules.proofs.KeepsFit.{none-fits, none-posted, funded_in-fits, funded_out-fits, sized-fits, rated-fits, pledged-fits, frozen-fits, withdrawn-fits, posted-fits}
use Rattle.rules.proofs.KeepsFitDay.{opened-fits, initial-fits, early-fits, paid-fits, closed-fits}
use Rattle.rules.proofs.Answers.{never-1-where-fit}

-- ---- a fresh book

pub fresh-is-fit : (calendar : Calendar) (table : List Trade) → length table ≤ 4096 → fit calendar fresh_book table ≡ true
unfolding fresh_book all_trades outstanding total differ
fresh-is-fit calendar table h =
    parts-fit calendar fresh_book table
    (record {
      capacity = record { within = h; room = omega arith };
      securities = λ kind k. rw (get_or-replicate 32 kind no_security no_security k) none-fits;
      cash = record { sum = omega arith; free = omega arith };
      each = refl;
      size = record { within = omega arith; covers = omega arith };
      postings = none-posted;
      nets = record { today = omega arith; cleared = omega arith };
      sums = record { unpaid = omega arith };
      differing = refl;
      withdrawals = record { count = omega arith; each = λ i k. absurd (omega arith) };
      day = refl;
    })

-- ---- a step

-- where no cause applies, none of the others does
pub others-clear : (c : Cause) (cs : List Cause) → first_of (c ∷ cs) ≡ none → first_of cs ≡ none
unfolding first_of
others-clear c cs e = go c.applies e
  where
    go : (b : Bool) → cond b (some c.number) (first_of cs) ≡ none → first_of cs ≡ none
    go true e = let z : ◌≡◌ {A = ℕ} 0 1 = cc in absurd (omega arith)
    go false e = e

act-keeps-fit : (calendar : Calendar) (book : Book) (table : List Trade) → Fit calendar book table → (event : Event) → first_of (event_causes calendar book table event) ≡ none
    → Fit calendar (act calendar book table event).book (act calendar book table event).table
unfolding act event_causes
act-keeps-fit calendar book table f Open e = opened-fits calendar book table f e
act-keeps-fit calendar book table f (FundIn account amount) e = funded_in-fits calendar book table f account amount e
act-keeps-fit calendar book table f (FundOut account amount) e = funded_out-fits calendar book table f account amount
act-keeps-fit calendar book table f (Size size) e = sized-fits calendar book table f size e
act-keeps-fit calendar book table f (Rate kind rate) e = rated-fits calendar book table f kind rate e
act-keeps-fit calendar book table f (Pledge kind units) e = pledged-fits calendar book table f kind units e
act-keeps-fit calendar book table f (Freeze kind units) e = frozen-fits calendar book table f kind units e
act-keeps-fit calendar book table f (Withdraw kind units) e = withdrawn-fits calendar book table f kind units e
act-keeps-fit calendar book table f (Initial terms) e = initial-fits calendar book table f terms e
act-keeps-fit calendar book table f (Early contract count price) e = early-fits calendar book table f contract count price e
act-keeps-fit calendar book table f Pay e = paid-fits calendar book table f e
act-keeps-fit calendar book table f Close e = closed-fits calendar book table f e
act-keeps-fit calendar book table f (Post product posting) e = posted-fits calendar book table f product posting e

acted-fit : (calendar : Calendar) (book : Book) (table : List Trade) → fit calendar book table ≡ true → (entry : Entry) → first_of (entry_causes calendar book table entry) ≡ none
    → fit calendar (act_on calendar book table entry).book (act_on calendar book table entry).table ≡ true
acted-fit calendar book table f (Some event) e = parts-fit calendar _ _ (act-keeps-fit calendar book table (fit_parts calendar book table f) event e)
acted-fit calendar book table f None e = f

pub step-keeps-fit : (calendar : Calendar) (book : Book) (table : List Trade) → fit calendar book table ≡ true → (entry : Entry)
    → fit calendar (step calendar book table entry).book (step calendar book table entry).table ≡ true
unfolding step causes
step-keeps-fit calendar book table f entry = go (first_of (causes calendar book table entry)) refl
  where
    go : (refusal : Option ℕ) → first_of (causes calendar book table entry) ≡ refusal
        → fit calendar (refuse_or refusal book table (act_on calendar book table entry)).book (refuse_or refusal book table (act_on calendar book table entry)).table ≡ true
    go none e = acted-fit calendar book table f entry (others-clear _ (entry_causes calendar book table entry) e)
    go (some number) e = f

pub never-answered-1 : (calendar : Calendar) (book : Book) (table : List Trade) → length calendar ≤ 1200 → fit calendar book table ≡ true → (entry : Entry)
    → (step calendar book table entry).answer.number ≡ 1 → ⊥
never-answered-1 calendar book table short f entry = never-1-where-fit calendar book table entry (rw f (le-ltb calendar_limit (length calendar) short))

-- ---- a run

-- every entry meets a fit book
pub run-stays-fit : (calendar : Calendar) (book : Book) (table : List Trade) → fit calendar book table ≡ true → (entries : List Entry)
    → All (λ seen. fit calendar seen.book seen.table ≡ true) (run calendar book table entries)
unfolding run
run-stays-fit calendar book table f [] = tt
run-stays-fit calendar book table f (entry ∷ entries) =
    (f, run-stays-fit calendar (step calendar book table entry).book (step calendar book table entry).table (step-keeps-fit calendar book table f entry) entries)

pub run-never-answers-1 : (calendar : Calendar) (book : Book) (table : List Trade) → length calendar ≤ 1200 → fit calendar book table ≡ true → (entries : List Entry)
    → All (λ seen. seen.left.answer.number ≡ 1 → ⊥) (run calendar book table entries)
unfolding run
run-never-answers-1 calendar book table short f [] = tt
run-never-answers-1 calendar book table short f (entry ∷ entries) = (
  never-answered-1 calendar book table short f entry,
  run-never-answers-1 calendar (step calendar book table entry).book (step calendar book table entry).table short (step-keeps-fit calendar book table f entry) entries,
)

pub fresh-never-answers-1 : (calendar : Calendar) (table : List Trade) → length calendar ≤ 1200 → length table ≤ 4096 → (entries : List Entry)
    → All (λ seen. seen.left.answer.number ≡ 1 → ⊥) (run calendar fresh_book table entries)
fresh-never-answers-1 calendar table short room entries = run-never-answers-1 calendar fresh_book table short (fresh-is-fit calendar table room) entries
