-- The tally of demand 3: told only the calendar, the events, their answers' numbers, at an Open the status and at a Close the terms started.
-- (01, Twelve events, "Demand 3"; 02, ask 4)
-- It has its own rules for days and rows, and knows no book.
-- Assumes nothing.
use Rattle.std.specs.Prelude.{ℕ, zero, suc, ◌+◌, ◌-◌, Bool, true, false, cond, List, [], ◌∷◌, ◌++◌, map, leb, eqb, ℤ, pos, ◌+ℤ◌, ◌-ℤ◌}
use Rattle.std.proofs.Math.Option.{Option, none, some}
use Rattle.money.specs.declared.units.Ticks.{Ticks}
use Rattle.money.specs.Units.{sheets}
use Rattle.money.specs.Days.{Calendar, earliest, next_after, day_or_0}
use Rattle.money.specs.Money.{principal, redemption}
use Rattle.rules.specs.declared.book.Status.{Status}
use Rattle.rules.specs.declared.book.Status.TheVariants.{Normal, Suspended, Terminated}
use Rattle.rules.specs.declared.trade.Contract.{Contract}
use Rattle.rules.specs.declared.trade.Trade.{Trade}
use Rattle.rules.specs.declared.trade.Terms.{Terms}
use Rattle.rules.specs.Entry.{Open, FundIn, FundOut, Size, Rate, Pledge, Freeze, Withdraw, Initial, Early, Pay, Close, Post, Entry, Some, None}

-- "a row (a record's fields)"
abbrev pub Row : Type 0
Row = Trade

-- "It has a day and rows, none at first, and six sums from 0: funds, begun, redeemed, running, cleared, paid."
pub record Tally : Type 0 where
  pub day : Option ℕ
  pub rows : List Row
  pub funds : ℤ
  pub begun : ℕ
  pub redeemed : ℕ
  pub running : ℤ
  pub cleared : ℤ
  pub paid : ℤ

abbrev pub blank : Tally
blank = record { day = none; rows = []; funds = pos 0; begun = 0; redeemed = 0; running = pos 0; cleared = pos 0; paid = pos 0 }

-- all that it is told of an entry
pub record Told : Type 0 where
  pub entry : Entry
  pub number : ℕ
  pub status : Option Status
  pub started : List Row

-- ---- days

-- "Open moves the day by its rule"
abbrev pub day_after : Calendar → Option ℕ → Option ℕ
day_after calendar none = earliest calendar
day_after calendar (some day) = next_after calendar day

abbrev pub paid_on : Calendar → Option ℕ → ℕ
paid_on calendar day = day_or_0 (day_after calendar day)

-- ---- rows: some sheets of each are taken at a price

abbrev pub sum_rows : (Row → ℕ) → List Row → ℕ
sum_rows f [] = 0
sum_rows f (row ∷ rows) = f row + sum_rows f rows

-- "Empty rows go"
abbrev pub unless_empty : ℕ → Row → List Row → List Row
unless_empty zero row rows = rows
unless_empty (suc count) row rows = row ∷ rows

abbrev pub without_empty : List Row → List Row
without_empty [] = []
without_empty (row ∷ rows) = unless_empty row.sheets.0 row (without_empty rows)

abbrev pub less : (Row → ℕ) → Row → Row
less taken row = record { contract = row.contract; sheets = sheets (row.sheets.0 - taken row); price = row.price; fallback = row.fallback; first = row.first; due = row.due; product = row.product }

-- the rows after sheets are taken, and the redemption amount of those sheets
abbrev pub taken_from : (Row → ℕ) → List Row → List Row
taken_from taken rows = without_empty (map (less taken) rows)

abbrev pub amount_of : (payment : ℕ) → (taken : Row → ℕ) → (price : Row → Ticks) → List Row → ℕ
amount_of payment taken price rows = sum_rows (λ row. (redemption (sheets (taken row)) (price row) (payment - row.first)).0) rows

-- a row is a contract's where their numbers agree
abbrev pub is_of : Contract → Row → Bool
is_of contract row = eqb row.contract.0 contract.0

-- which sheets: each row whole; each row due by a day whole; some of a contract's row
abbrev pub whole : Row → ℕ
whole row = row.sheets.0

abbrev pub whole_if_due : ℕ → Row → ℕ
whole_if_due day row = cond (leb row.due day) row.sheets.0 0

abbrev pub of_contract : Contract → ℕ → Row → ℕ
of_contract contract count row = cond (is_of contract row) count 0

-- ---- what answer 0 to each event does

abbrev pub with_funds : ℤ → Tally → Tally
with_funds funds t = record { day = t.day; rows = t.rows; funds = funds; begun = t.begun; redeemed = t.redeemed; running = t.running; cleared = t.cleared; paid = t.paid }

-- "Open moves the day by its rule; if terminated, it takes each row whole at its fallback price", into cleared
abbrev pub opened : (terminated : Bool) → Calendar → Tally → Tally
opened false calendar t = record {
  day = day_after calendar t.day;
  rows = t.rows;
  funds = t.funds;
  begun = t.begun;
  redeemed = t.redeemed;
  running = t.running;
  cleared = t.cleared;
  paid = t.paid;
}
opened true calendar t = record {
  day = day_after calendar t.day;
  rows = taken_from whole t.rows;
  funds = t.funds;
  begun = t.begun;
  redeemed = t.redeemed + sum_rows whole t.rows;
  running = t.running;
  cleared = t.cleared +ℤ pos (amount_of (paid_on calendar (day_after calendar t.day)) whole (λ row. row.fallback) t.rows);
  paid = t.paid;
}

-- the fields of a trade's record
abbrev pub row_of : Terms → (first : ℕ) → Row
row_of terms first = record {
  contract = terms.contract;
  sheets = terms.sheets;
  price = terms.price;
  fallback = terms.fallback;
  first = first;
  due = terms.due;
  product = terms.product;
}

-- "Initial adds its sheets to begun and a row (a record's fields), and takes 10,000q from running."
abbrev pub began : Calendar → Terms → Tally → Tally
began calendar terms t = record {
  day = t.day;
  rows = without_empty (t.rows ++ (row_of terms (paid_on calendar t.day) ∷ []));
  funds = t.funds;
  begun = t.begun + terms.sheets.0;
  redeemed = t.redeemed;
  running = t.running -ℤ pos (principal terms.sheets).0;
  cleared = t.cleared;
  paid = t.paid;
}

-- "Early takes sheets off its contract's row at the price given."
abbrev pub redeemed_early : Calendar → Contract → ℕ → Ticks → Tally → Tally
redeemed_early calendar contract count price t = record {
  day = t.day;
  rows = taken_from (of_contract contract count) t.rows;
  funds = t.funds;
  begun = t.begun;
  redeemed = t.redeemed + sum_rows (of_contract contract count) t.rows;
  running = t.running +ℤ pos (amount_of (paid_on calendar t.day) (of_contract contract count) (λ row. price) t.rows);
  cleared = t.cleared;
  paid = t.paid;
}

-- a started term's record stands in the place of its contract's row
abbrev pub renewed : (started : List Row) → Row → Row
renewed [] row = row
renewed (term ∷ started) row = cond (is_of row.contract term) term (renewed started row)

abbrev pub principal_of : Row → ℕ
principal_of row = (principal row.sheets).0

-- "Close takes each row due by then whole at its price; then running joins cleared and becomes 0."
-- Before it joins, "A started term counts as an initial trade in every total" (02, ask 4).
abbrev pub closed : Calendar → (started : List Row) → Tally → Tally
closed calendar started t =
    let due = whole_if_due (day_or_0 t.day) in
    let matured = pos (amount_of (paid_on calendar t.day) due (λ row. row.price) t.rows) in
    record {
      day = t.day;
      rows = without_empty (map (λ row. renewed started (less due row)) t.rows);
      funds = t.funds;
      begun = t.begun + sum_rows whole started;
      redeemed = t.redeemed + sum_rows due t.rows;
      running = pos 0;
      cleared = t.cleared +ℤ ((t.running +ℤ matured) -ℤ pos (sum_rows principal_of started));
      paid = t.paid;
    }

-- "Pay sets paid to cleared."
abbrev pub paid_off : Tally → Tally
paid_off t = record { day = t.day; rows = t.rows; funds = t.funds; begun = t.begun; redeemed = t.redeemed; running = t.running; cleared = t.cleared; paid = t.cleared }

abbrev pub says_terminated : Option Status → Bool
says_terminated none = false
says_terminated (some Normal) = false
says_terminated (some Suspended) = false
says_terminated (some Terminated) = true

unfoldable pub counted : Calendar → Entry → Option Status → (started : List Row) → Tally → Tally
counted calendar (Some Open) status started t = opened (says_terminated status) calendar t
counted calendar (Some (FundIn account amount)) status started t = with_funds (t.funds +ℤ pos amount.0) t
counted calendar (Some (FundOut account amount)) status started t = with_funds (t.funds -ℤ pos amount.0) t
counted calendar (Some (Size size)) status started t = t
counted calendar (Some (Rate kind rate)) status started t = t
counted calendar (Some (Pledge kind units)) status started t = t
counted calendar (Some (Freeze kind units)) status started t = t
counted calendar (Some (Withdraw kind units)) status started t = t
counted calendar (Some (Initial terms)) status started t = began calendar terms t
counted calendar (Some (Early contract count price)) status started t = redeemed_early calendar contract count.0 price t
counted calendar (Some Pay) status started t = paid_off t
counted calendar (Some Close) status started t = closed calendar started t
counted calendar (Some (Post product posting)) status started t = t
counted calendar None status started t = t

-- "Only answer 0 changes it."
abbrev pub on_zero : ℕ → Tally → Tally → Tally
on_zero zero before after = after
on_zero (suc number) before after = before

unfoldable pub tell : Calendar → Tally → Told → Tally
tell calendar t told = on_zero told.number t (counted calendar told.entry told.status told.started t)

unfoldable pub tally_of : Calendar → Tally → List Told → Tally
tally_of calendar t [] = t
tally_of calendar t (told ∷ more) = tally_of calendar (tell calendar t told) more
