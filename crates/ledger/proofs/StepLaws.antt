-- An event's contract against the step: on a fit book cause 1 falls away, and what the event gives back is what the step says.
-- Assumes nothing.
use Rattle.std.specs.Prelude.{◌≡◌, ℕ, ◌<◌, ◌≤◌, Bool, true, false, not, ◌||◌, List, length}
use mathlib.Core.Path.{refl, ap}
use mathlib.Core.Option.{Option, none, some}
use borrow.Author.Tests.{le-ltb, lt-ltb}
use Rattle.money.specs.Causes.{first_of}
use Rattle.money.specs.Days.{Calendar}
use Rattle.money.proofs.Refusals.{hit, skip}
use Rattle.rules.specs.Book.{answer}
use Rattle.rules.specs.Fit.{fit}
use Rattle.rules.specs.Step.{Outcome, outcome, unfit, event_causes, entry_causes, causes, act, act_on, refuse_or, step}
use Rattle.ledger.specs.Types.{Book, Trade, Event, Entry, Some, Applied}
use Rattle.ledger.specs.Flat.{given_by, table_by, applied_of}

module _ (calendar : Calendar) (book : Book) (table : List Trade) where
  -- when cause 1 applies, and when it does not
  pub too-many-words : 1200 < length calendar → unfit calendar book table ≡ true
  too-many-words h = rw (lt-ltb 1200 (length calendar) h) (or-true (not (fit calendar book table)))
    where
      or-true : (x : Bool) → (x || true) ≡ true
      or-true true = refl
      or-true false = refl

  pub not-unfit : fit calendar book table ≡ true → length calendar ≤ 1200 → unfit calendar book table ≡ false
  not-unfit fits few = rw (fits, le-ltb 1200 (length calendar) few) refl

  -- where the book is fit and the calendar is not too long, the entry's own causes decide
  pub fit-step : fit calendar book table ≡ true → length calendar ≤ 1200 → (entry : Entry) → step calendar book table entry ≡ refuse_or (first_of (entry_causes calendar book table entry)) book table (act_on calendar book table entry)
  unfolding step causes
  fit-step fits few entry = ap (λ (o : Option ℕ). refuse_or o book table (act_on calendar book table entry)) (skip 1 _ (not-unfit fits few) refl)

  -- else the number is 1
  pub unfit-step : unfit calendar book table ≡ true → (entry : Entry) → step calendar book table entry ≡ outcome (answer 1) book table
  unfolding step causes
  unfit-step bad entry = ap (λ (o : Option ℕ). refuse_or o book table (act_on calendar book table entry)) (hit 1 _ bad)

-- ---- what an event's function gives back by its own causes is what the step gives on a fit book

-- what is given back and the table afterwards
abbrev Gives : Outcome → Applied → List Trade → Type 0
Gives left r after = (r ≡ applied_of left) × (after ≡ left.table)

module _ (calendar : Calendar) (book : Book) (table : List Trade) (fits : fit calendar book table ≡ true) (few : length calendar ≤ 1200) (event : Event) where
  abbrev refusal : Option ℕ
  refusal = first_of (event_causes calendar book table event)

  by-step : (left : Outcome) → act calendar book table event ≡ left → (r : Applied) (after : List Trade) → Gives (refuse_or refusal book table left) r after → Gives (step calendar book table (Some event)) r after
  by-step left acts r after given = rw (fit-step calendar book table fits few (Some event), acts) given

  -- an event that may change the table
  pub changes-table : (done : Applied) (changed : List Trade) → act calendar book table event ≡ outcome done.answer done.book changed
      → (r : Applied) (after : List Trade) → (r ≡ given_by refusal book done) × (after ≡ table_by refusal table changed) → Gives (step calendar book table (Some event)) r after
  changes-table done changed acts r after e = by-step _ acts r after (by-refusal refusal e)
    where
      by-refusal : (o : Option ℕ) → (r ≡ given_by o book done) × (after ≡ table_by o table changed) → Gives (refuse_or o book table (outcome done.answer done.book changed)) r after
      by-refusal none e = e
      by-refusal (some n) e = e

  -- one that leaves it
  pub leaves_table : (done : Applied) → act calendar book table event ≡ outcome done.answer done.book table → (r : Applied) → r ≡ given_by refusal book done → Gives (step calendar book table (Some event)) r table
  leaves_table done acts r e = changes-table done table acts r table (e, same refusal)
    where
      same : (o : Option ℕ) → table ≡ table_by o table table
      same none = refl
      same (some n) = refl
