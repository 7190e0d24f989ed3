-- A book and its table in lent numbers, and what a call on them gives: what the promises of those calls cite. It states no rule.
-- Assumes nothing.
use Rattle.std.specs.Prelude.{ℕ, ◌%◌, Bool, cond, not, ◌&&◌, List, [], ◌∷◌, length, ◌==◌}
use Rattle.money.specs.Days.{Calendar}
use Rattle.rules.specs.Limits.{application_limit}
use Rattle.rules.specs.Folds.{every}
use Rattle.rules.specs.Book.{answer}
use Rattle.rules.specs.Step.{Outcome, outcome, unfit, step}
use Rattle.rules.specs.Cover.{cover_refused, cover_of}
use Rattle.rules.specs.Listing.{RunOutcome, run_outcome}
use Rattle.ledger.specs.Types.{Book, Trade, Entry, Cover}
use Rattle.ledger.specs.Flat.{width, held_length, rows_of, book_of, trades_of}
use Rattle.scalars.specs.declared.state.Scalars.{Scalars}

-- what is small of the book, the rows of securities with the postings and of applications, and the table
pub record Lent : Type 0 where
  pub scalars : Scalars
  pub held : List ℕ
  pub kinds : List ℕ
  pub units : List ℕ
  pub table : List ℕ

abbrev pub lent : Scalars → (held kinds units table : List ℕ) → Lent
lent scalars held kinds units table = record { scalars = scalars; held = held; kinds = kinds; units = units; table = table }

-- the book and the trades that they are
abbrev pub book_in : Lent → Book
book_in l = book_of l.scalars (rows_of l.held l.kinds l.units)

abbrev pub table_in : Lent → List Trade
table_in l = trades_of l.table

-- 32 securities of four numbers each with 16 postings of two, 128 applications, and whole trades of five numbers each
unfoldable pub is_whole : Lent → Bool
is_whole l =
    every
    ((length l.held == held_length)
    ∷ (length l.kinds == application_limit)
    ∷ (length l.units == application_limit)
    ∷ (length l.table % width == 0)
    ∷ [])

-- ---- numbers that are not whole hold no book, so none that is fit: 1, and all as it was

unfoldable pub step_in : Calendar → Lent → Entry → Outcome
step_in calendar l entry = cond (is_whole l) (step calendar (book_in l) (table_in l) entry) (outcome (answer 1) (book_in l) (table_in l))

unfoldable pub cover_in : Calendar → Lent → Cover
cover_in calendar l = cond (is_whole l) (cover_of calendar (book_in l) (table_in l)) cover_refused

unfoldable pub run_in : Calendar → Lent → (bytes buffer : List ℕ) → RunOutcome
run_in calendar l bytes buffer =
    cond (is_whole l) (run_outcome calendar (book_in l) (table_in l) bytes buffer)
    (record { ran = record { number = 1; book = book_in l }; table = table_in l; lines = buffer })

-- whether they hold a fit book under a calendar that is not too long
unfoldable pub fit_in : Calendar → Lent → Bool
fit_in calendar l = is_whole l && not (unfit calendar (book_in l) (table_in l))
