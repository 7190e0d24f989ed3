-- A book taken apart and put together is the book.
-- For the calls that take a whole book. Assumes nothing.
use Rattle.std.specs.Prelude.{◌≡◌, ℕ, List}
use mathlib.Core.Path.{ap, ◌∙◌}
use Rattle.ledger.specs.Types.{Security, Posting, Book}
use Rattle.scalars.specs.declared.state.Scalars.{Scalars}
use Rattle.ledger.specs.Flat.{securities_of, postings_of, rows_of, book_of, scalars_of}

pub whole : (book : Book) (held : List ℕ) {scalars : Scalars} {kinds units : List ℕ} → scalars ≡ scalars_of book
    → securities_of held ≡ book.vault.securities → postings_of held ≡ book.postings → kinds ≡ book.withdrawals.kinds → units ≡ book.withdrawals.units → book_of scalars (rows_of held kinds units) ≡ book
whole book held {scalars} {kinds} {units} d s p k u =
    ap (λ (x : Scalars). book_of x (rows_of held kinds units)) d
    ∙ ap (λ (row : List Security). rows row (postings_of held) kinds units) s
    ∙ ap (λ (row : List Posting). rows book.vault.securities row kinds units) p
    ∙ ap (λ (row : List ℕ). rows book.vault.securities book.postings row units) k
    ∙ ap (λ (row : List ℕ). rows book.vault.securities book.postings book.withdrawals.kinds row) u
  where
    rows : List Security → List Posting → (kinds units : List ℕ) → Book
    rows securities postings kinds units = book_of (scalars_of book) (record { securities = securities; postings = postings; kinds = kinds; units = units })
