-- A list of entries put to a book: each gets the book and the table that the last one left. (00, demand 3)
-- Assumes nothing.
use Rattle.std.specs.Prelude.{◌≡◌, List, [], ◌∷◌}
use Rattle.money.specs.Days.{Calendar}
use Rattle.rules.specs.Book.{Book}
use Rattle.rules.specs.Trades.{Trade}
use Rattle.rules.specs.Entry.{Entry}
use Rattle.rules.specs.Step.{Outcome, step}

-- an entry with the book and the table that it met, and what it left
pub record Seen : Type 0 where
  pub book : Book
  pub table : List Trade
  pub entry : Entry
  pub left : Outcome

abbrev pub see : Calendar → Book → List Trade → Entry → Seen
see calendar book table entry = record { book = book; table = table; entry = entry; left = step calendar book table entry }

unfoldable pub run : Calendar → Book → List Trade → List Entry → List Seen
run calendar book table [] = []
run calendar book table (entry ∷ entries) =
    let next = step calendar book table entry in
    see calendar book table entry ∷ run calendar next.book next.table entries

-- ---- a list of what was seen, on whatever ledger

-- "Each event gets the book and the table that the last one left" (00, demand 3)
abbrev pub Follows : Book → List Trade → List Seen → Type 0
Follows book table [] = Unit {0}
Follows book table (seen ∷ more) = (seen.book ≡ book) × (seen.table ≡ table) × Follows seen.left.book seen.left.table more

-- the book and the table after the list
unfoldable pub last_book : Book → List Seen → Book
last_book book [] = book
last_book book (seen ∷ more) = last_book seen.left.book more

unfoldable pub last_table : List Trade → List Seen → List Trade
last_table table [] = table
last_table table (seen ∷ more) = last_table seen.left.table more
