-- An entry looks at the slots in use and at the next one: whatever else the table holds stays as it is.
-- For crate book, whose calls copy no more than that. Assumes nothing.
use mathlib.Core.Path.{◌≡◌, refl, sym, ap, ◌∙◌}
use mathlib.Core.Bool.{Bool, true, false, cond}
use mathlib.Core.List.{List, [], ◌++◌, map, append_assoc, append-nil}
use mathlib.Core.Option.{Option, none, some}
use Prim.Native.Nat.{ℕ, ◌+◌, ◌-◌, ◌≤◌, ◌<◌, min}
use native.Mathlib.Omega.{arith}
use borrow.Author.Tests.{le-leb, lt-leb, leb-true, leb-false}
use lib.Dec.{leb}
use lib.ListN.{length, take, drop, replicate, length-append, take-append-drop, drop_of_length-le}
use lib.Seq.{take-append-le, drop-append-le, set-append_left, take_all, length-take-le}
use Rattle.money.specs.declared.units.Sheets.{Sheets}
use Rattle.money.specs.declared.units.Ticks.{Ticks}
use Rattle.money.specs.Causes.{first_of}
use Rattle.money.specs.Days.{Calendar}
use Rattle.rules.specs.Book.{Book}
use Rattle.rules.specs.Trades.{Contract, Trade, Terms, no_trade, in_use, take_off, emptied, remaining, packed, over}
use Rattle.rules.specs.Vault.{headroom}
use Rattle.rules.specs.Fit.{capacity_fit, fit}
use Rattle.rules.specs.Entry.{Event, Open, FundIn, FundOut, Size, Rate, Pledge, Freeze, Withdraw, Initial, Early, Pay, Close, Post, Entry, Some, None}
use Rattle.rules.specs.Open.{turns_terminated, open_causes, opened_book, opened_table}
use Rattle.rules.specs.Size.{size_causes}
use Rattle.rules.specs.Initial.{initial_causes, begun, initial_table}
use Rattle.rules.specs.Early.{early_causes, early_book, early_table}
use Rattle.rules.specs.Close.{matured_trades, matured_sheets, matured_amount, left_trades, started_terms, started_principal, claims_at_close, close_causes, close_answer, closed_book, closed_table}
use Rattle.rules.specs.Step.{Outcome, outcome, event_causes, entry_causes, causes, act, act_on, refuse_or, step}

-- a table with more slots behind it
abbrev pub with_rest : Outcome → List Trade → Outcome
with_rest left rest = outcome left.answer left.book (left.table ++ rest)

no-rest : (left : Outcome) → with_rest left [] ≡ left
no-rest left = ap (outcome left.answer left.book) (append-nil left.table)

module _ (calendar : Calendar) (book : Book) (front rest : List Trade) (room : book.trades < length front) (few : length (front ++ rest) ≤ 4096) where
  in_use-here : in_use book.trades (front ++ rest) ≡ in_use book.trades front
  in_use-here = take-append-le book.trades front rest (omega arith)

  -- ---- the tests

  capacity-front : capacity_fit book.trades (front ++ rest) ≡ capacity_fit book.trades front
  unfolding capacity_fit
  capacity-front =
      let long = length-append front rest in
      rw (le-leb (length (front ++ rest)) 4096 few, le-leb (length front) 4096 (omega (arith, few, long)), le-leb book.trades (length (front ++ rest)) (omega (arith, room, long)), le-leb book.trades (length front) (omega arith))

  pub fit-front : fit calendar book (front ++ rest) ≡ fit calendar book front
  unfolding fit
  fit-front = rw (capacity-front, in_use-here)

  -- neither is full
  full-front : leb (length (front ++ rest)) book.trades ≡ leb (length front) book.trades
  full-front = rw (lt-leb (length (front ++ rest)) book.trades (omega (arith, room, length-append front rest)), lt-leb (length front) book.trades room)

  pub headroom-front : headroom book (front ++ rest) ≡ headroom book front
  unfolding headroom
  headroom-front = rw in_use-here

  causes-front : (event : Event) → event_causes calendar book (front ++ rest) event ≡ event_causes calendar book front event
  unfolding event_causes open_causes size_causes initial_causes early_causes close_causes matured_trades matured_amount started_terms started_principal
  causes-front Open = rw in_use-here
  causes-front (FundIn account amount) = refl
  causes-front (FundOut account amount) = refl
  causes-front (Size size) = rw in_use-here
  causes-front (Rate kind rate) = refl
  causes-front (Pledge kind units) = refl
  causes-front (Freeze kind units) = refl
  causes-front (Withdraw kind units) = refl
  causes-front (Initial terms) = rw (in_use-here, full-front, headroom-front)
  causes-front (Early contract count price) = rw in_use-here
  causes-front Pay = refl
  causes-front Close = rw in_use-here
  causes-front (Post product posting) = refl

  -- ---- what is done

  over-front : (changed : List Trade) → over book.trades changed (front ++ rest) ≡ over book.trades changed front ++ rest
  over-front changed = ap (λ (l : List Trade). changed ++ l) (drop-append-le book.trades front rest (omega arith)) ∙ sym (append_assoc changed (drop book.trades front) rest)

  packed-front : (kept : List Trade) → packed book.trades kept (front ++ rest) ≡ packed book.trades kept front ++ rest
  packed-front kept =
      let freed = replicate (book.trades - length kept) no_trade in
      ap (λ (l : List Trade). kept ++ l) (over-front freed) ∙ sym (append_assoc kept (over book.trades freed front) rest)

  opened-front : opened_table book (front ++ rest) ≡ opened_table book front ++ rest
  unfolding opened_table
  opened-front = rw in_use-here (go (turns_terminated book.standing))
    where
      go : (b : Bool) → cond b (over book.trades (map emptied (in_use book.trades front)) (front ++ rest)) (front ++ rest) ≡ cond b (over book.trades (map emptied (in_use book.trades front)) front) front ++ rest
      go true = over-front (map emptied (in_use book.trades front))
      go false = refl

  left-front : left_trades calendar book (front ++ rest) ≡ left_trades calendar book front
  unfolding left_trades matured_trades
  left-front = rw in_use-here

  opened-book-front : opened_book calendar book (front ++ rest) ≡ opened_book calendar book front
  unfolding opened_book
  opened-book-front = rw in_use-here

  begun-front : (terms : Terms) → initial_table calendar book (front ++ rest) terms ≡ initial_table calendar book front terms ++ rest
  unfolding initial_table
  begun-front terms = set-append_left front rest book.trades (begun calendar book terms) room

  early-front : (contract : Contract) (count : Sheets) → early_table book (front ++ rest) contract count ≡ early_table book front contract count ++ rest
  unfolding early_table
  early-front contract count = rw in_use-here (over-front (take_off contract count.0 (in_use book.trades front)))

  early-book-front : (contract : Contract) (count : Sheets) (price : Ticks) → early_book calendar book (front ++ rest) contract count price ≡ early_book calendar book front contract count price
  unfolding early_book
  early-book-front contract count price = rw in_use-here

  answer-front : (left : List Trade) → close_answer calendar book left (front ++ rest) ≡ close_answer calendar book left front
  unfolding close_answer matured_sheets claims_at_close matured_amount
  answer-front left = rw in_use-here

  closed-book-front : (left : List Trade) → closed_book calendar book left (front ++ rest) ≡ closed_book calendar book left front
  unfolding closed_book claims_at_close matured_trades matured_amount started_terms started_principal
  closed-book-front left = rw in_use-here

  closed-front : (left : List Trade) → closed_table book left (front ++ rest) ≡ closed_table book left front ++ rest
  unfolding closed_table
  closed-front left = packed-front (remaining left)

  act-front : (event : Event) → act calendar book (front ++ rest) event ≡ with_rest (act calendar book front event) rest
  unfolding act
  act-front Open = rw (opened-front, opened-book-front)
  act-front (FundIn account amount) = refl
  act-front (FundOut account amount) = refl
  act-front (Size size) = refl
  act-front (Rate kind rate) = refl
  act-front (Pledge kind units) = refl
  act-front (Freeze kind units) = refl
  act-front (Withdraw kind units) = refl
  act-front (Initial terms) = rw (begun-front terms)
  act-front (Early contract count price) = rw (early-front contract count, early-book-front contract count price)
  act-front Pay = refl
  act-front Close =
      let left = left_trades calendar book front in
      rw (left-front, answer-front left, closed-book-front left, closed-front left)
  act-front (Post product posting) = refl

  -- ---- the entry

  entry-front : (entry : Entry) → (entry_causes calendar book (front ++ rest) entry ≡ entry_causes calendar book front entry) × (act_on calendar book (front ++ rest) entry ≡ with_rest (act_on calendar book front entry) rest)
  entry-front (Some event) = (causes-front event, act-front event)
  entry-front None = (refl, refl)

  pub step-front : (entry : Entry) → step calendar book (front ++ rest) entry ≡ with_rest (step calendar book front entry) rest
  unfolding step causes
  step-front entry = rw (fit-front, (entry-front entry).0, (entry-front entry).1) (by-refusal (first_of (causes calendar book front entry)) (act_on calendar book front entry))
    where
      by-refusal : (o : Option ℕ) (done : Outcome) → refuse_or o book (front ++ rest) (with_rest done rest) ≡ with_rest (refuse_or o book front done) rest
      by-refusal none done = refl
      by-refusal (some number) done = refl

-- ---- as many slots as are looked at

module _ (calendar : Calendar) (book : Book) (table : List Trade) (few : length table ≤ 4096) (used : ℕ) (e : used ≡ min (book.trades + 1) (length table)) where
  -- either there is a next slot, or all are looked at
  looked-at : {X : Type 0} → (book.trades < length (take used table) → X) → (length table ≤ used → X) → X
  looked-at {X = X} next all = go (leb (length table) book.trades) refl
    where
      go : (b : Bool) → leb (length table) book.trades ≡ b → X
      go true t = all (omega (arith, e, leb-true (length table) book.trades t))
      go false t = next (omega (arith, e, leb-false (length table) book.trades t, length-take-le used table (omega (arith, e))))

  pub step-used : (entry : Entry) → step calendar book table entry ≡ with_rest (step calendar book (take used table) entry) (drop used table)
  step-used entry =
      looked-at
      (λ room. ap (λ (l : List Trade). step calendar book l entry) (sym (take-append-drop used table)) ∙ step-front calendar book (take used table) (drop used table) room (rw (take-append-drop used table) few) entry)
      (λ all. rw (take_all used table all, drop_of_length-le table all) (sym (no-rest (step calendar book table entry))))
