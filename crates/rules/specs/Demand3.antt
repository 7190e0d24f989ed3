-- Demand 3: a single claim about a list of what was seen, on whatever ledger. (00, demand 3; 01, Twelve events, "Demand 3"; 02, ask 4)
-- Assumes nothing.
use Rattle.std.specs.Prelude.{◌≡◌, Bool, cond, ◌&&◌, List, [], ◌∷◌, ℕ, ◌+◌, ◌≤◌, ◌<◌, T, eqb, ℤ, pos, nat_abs, ◌+ℤ◌, ◌-ℤ◌, ◌≤ℤ◌}
use Rattle.std.proofs.Math.Option.{none, some}
use Rattle.money.specs.Days.{Calendar}
use Rattle.rules.specs.Book.{Cash, Book, fresh_book}
use Rattle.rules.specs.Trades.{Trade}
use Rattle.rules.specs.Vault.{value, headroom_of, outstanding_of, headroom}
use Rattle.rules.specs.Fit.{all_cash}
use Rattle.rules.specs.Entry.{Entry, code_of}
use Rattle.rules.specs.Pay.{payer_holds}
use Rattle.rules.specs.Close.{outstanding_matured, started_terms}
use Rattle.rules.specs.Step.{accepted}
use Rattle.rules.specs.Run.{Seen, see, run, Follows, last_book, last_table}
use Rattle.rules.specs.Tally.{Tally, Told, blank, tell, tally_of}

-- ---- what the tally is told: the entry, its answer's number, at an Open the status and at a Close the terms started

abbrev pub is_open : Entry → Bool
is_open entry = eqb (code_of entry) 1

abbrev pub is_initial : Entry → Bool
is_initial entry = eqb (code_of entry) 9

abbrev pub is_pay : Entry → Bool
is_pay entry = eqb (code_of entry) 11

abbrev pub is_close : Entry → Bool
is_close entry = eqb (code_of entry) 12

abbrev pub number : Seen → ℕ
number seen = seen.left.answer.number

-- "at an Open, the status that the rules above give over the same list": `ruled` is the same entry where the rules are kept.
-- "the tally of demand 3 is told from these rules which ones started, with their records" (02, ask 4)
abbrev pub told : Calendar → (ruled seen : Seen) → Told
told calendar ruled seen = record {
  entry = seen.entry;
  number = number seen;
  status = cond (is_open seen.entry) (some ruled.left.book.standing.status) none;
  started = cond (is_close seen.entry && accepted (number ruled)) (started_terms calendar ruled.book ruled.table) [];
}

-- of a list, beside which the rules begin with this book and table
unfoldable pub told_of : Calendar → Book → List Trade → List Seen → List Told
told_of calendar book table [] = []
told_of calendar book table (seen ∷ more) =
    let ruled = see calendar book table seen.entry in
    told calendar ruled seen ∷ told_of calendar ruled.left.book ruled.left.table more

-- ---- the claims about one entry

-- "After each accepted Initial headroom was 0 or above."
abbrev pub InitialCovered : Seen → Type 0
InitialCovered seen = T (is_initial seen.entry) → T (accepted (number seen)) → pos 0 ≤ℤ headroom seen.left.book seen.left.table

-- O right after each of some terms that start one after the other
abbrev pub outstandings : (outstanding : ℕ) → (started : List Trade) → List ℕ
outstandings outstanding [] = []
outstandings outstanding (term ∷ started) =
    let next = outstanding + term.sheets.0 in
    next ∷ outstandings next started

abbrev pub Each : (ℕ → Type 0) → List ℕ → Type 0
Each claim [] = Unit {0}
Each claim (number ∷ numbers) = claim number × Each claim numbers

-- "A started term counts as an initial trade … in the headroom rule" (02, ask 4): after each started term headroom was 0 or above
abbrev pub StartsCovered : (told : Told) → Seen → Type 0
StartsCovered told seen =
    T (is_close seen.entry)
    → T (accepted (number seen))
    → Each (λ outstanding. pos 0 ≤ℤ headroom_of seen.book.size.0 (value seen.book.vault) outstanding)
    (outstandings (outstanding_matured seen.book seen.table) told.started)

-- "Exactly when the payer held at least its size, the answer was 0, own fell by the net and client rose by it; otherwise 99, and neither
-- changed."
pub record WholeOrNothing (net : ℤ) (before after : Cash) (number : ℕ) : Type 0 where
  pub whole :
      nat_abs net ≤ payer_holds net before
      → (number ≡ 0)
      × (pos after.own.0 ≡ pos before.own.0 -ℤ net)
      × (pos after.client.0 ≡ pos before.client.0 +ℤ net)
  pub nothing :
      payer_holds net before < nat_abs net
      → (number ≡ 99)
      × (after.own.0 ≡ before.own.0)
      × (after.client.0 ≡ before.client.0)

-- "The net due at an accepted Pay is cleared less paid before it"
abbrev pub PaymentRight : Tally → Seen → Type 0
PaymentRight before seen =
    T (is_pay seen.entry)
    → T (accepted (number seen))
    → WholeOrNothing (before.cleared -ℤ before.paid) seen.book.cash seen.left.book.cash (number seen)

-- ---- the claims about the list

abbrev pub All : (Seen → Type 0) → List Seen → Type 0
All claim [] = Unit {0}
All claim (seen ∷ more) = claim seen × All claim more

-- each with what the tally is told of it
abbrev pub AllTold : Calendar → (Told → Seen → Type 0) → Book → List Trade → List Seen → Type 0
AllTold calendar claim book table [] = Unit {0}
AllTold calendar claim book table (seen ∷ more) =
    let ruled = see calendar book table seen.entry in
    claim (told calendar ruled seen) seen × AllTold calendar claim ruled.left.book ruled.left.table more

-- each with the tally of what came before it
abbrev pub AllBeside : Calendar → (Tally → Seen → Type 0) → Book → List Trade → Tally → List Seen → Type 0
AllBeside calendar claim book table t [] = Unit {0}
AllBeside calendar claim book table t (seen ∷ more) =
    let ruled = see calendar book table seen.entry in
    claim t seen × AllBeside calendar claim ruled.left.book ruled.left.table (tell calendar t (told calendar ruled seen)) more

-- "The money moved, own before less own after over accepted Pays"
abbrev pub moved_at : Seen → ℤ
moved_at seen =
    let own = seen.book.cash.own.0 in
    cond (is_pay seen.entry && accepted (number seen)) (pos own -ℤ pos seen.left.book.cash.own.0) (pos 0)

unfoldable pub money_moved : List Seen → ℤ
money_moved [] = pos 0
money_moved (seen ∷ more) = moved_at seen +ℤ money_moved more

-- "put to a fresh book over any lent table" (00): the tally beside a list, and the cash and O after it
abbrev pub tally_beside : Calendar → List Trade → List Seen → Tally
tally_beside calendar table list = tally_of calendar blank (told_of calendar fresh_book table list)

abbrev pub cash_after : List Seen → ℕ
cash_after list =
    let last = last_book fresh_book list in
    all_cash last.cash last.vault.guarantee

abbrev pub outstanding_after : List Trade → List Seen → ℕ
outstanding_after table list = outstanding_of (last_book fresh_book list) (last_table table list)

pub record Demand3 (calendar : Calendar) (table : List Trade) (list : List Seen) : Type 0 where
  -- "Each event gets the book and the table that the last one left" (00)
  pub one-book : Follows fresh_book table list
  -- "the three kinds of cash, arriving included, together equal funds"
  pub cash-is-funds : pos (cash_after list) ≡ (tally_beside calendar table list).funds
  -- "and O equals begun less redeemed"
  pub outstanding-is-begun-less-redeemed :
      pos (outstanding_after table list) ≡ pos (tally_beside calendar table list).begun -ℤ pos (tally_beside calendar table list).redeemed
  pub initials-covered : All InitialCovered list
  pub starts-covered : AllTold calendar StartsCovered fresh_book table list
  pub payments-whole-or-nothing : AllBeside calendar PaymentRight fresh_book table blank list
  -- "sums to paid"
  pub money-moved-is-paid : money_moved list ≡ (tally_beside calendar table list).paid

-- what is seen where the rules are kept
abbrev pub seen_from : Calendar → List Trade → List Entry → List Seen
seen_from calendar table entries = run calendar fresh_book table entries
