-- What an event gives back, by its refusal: the book as it was where it is turned down, the new one where it is done. Assumes nothing.
use Rattle.std.specs.Prelude.{◌≡◌, ℕ, List, [], Result, Ok, Err}
use Rattle.std.specs.Result.{IsErrAnd}
use mathlib.Core.Path.{refl, ap, ◌∙◌}
use mathlib.Core.Option.{Option, none, some}
use Rattle.money.specs.declared.refusal.Refusal.{Refusal}
use Rattle.money.specs.Causes.{Cause, first_of, refusal_number, refusal_of}
use Rattle.rules.specs.Book.{answer}
use Rattle.ledger.specs.Types.{Book}
use Rattle.scalars.specs.declared.state.Scalars.{Scalars}
use Rattle.scalars.specs.declared.done.Done.{Done}
use Rattle.scalars.specs.Scalars.{done_by}
use Rattle.ledger.specs.Flat.{Rows, book_of, applied_by, applied_at}

-- the rows of no book: where a fact is the scalars' alone
abbrev pub no_rows : Rows
no_rows = record { securities = []; postings = []; kinds = []; units = [] }

-- what a refusal told is told on
pub told-on : {A : Type 0} (told : Result A Refusal) (refusal : Refusal) {cause : Option ℕ} → IsErrAnd told (λ e. e ≡ refusal) → some (refusal_number refusal) ≡ cause → refusal_of told ≡ cause
told-on (Ok x) refusal is e = absurd is
told-on (Err told) refusal is e = ap (λ (r : Refusal). some (refusal_number r)) is ∙ e

module _ (causes : List Cause) (scalars : Scalars) (rows after : Rows) (next : Book) where
  -- it is turned down for what a refusal told
  pub turned_down : (told : Result Done Refusal) (refusal : Refusal) → IsErrAnd told (λ e. e ≡ refusal) → some (refusal_number refusal) ≡ first_of causes → after ≡ rows
      → applied_at (done_by scalars told) after ≡ applied_by (first_of causes) (book_of scalars rows) next
  turned_down (Ok done) refusal is e same = absurd is
  turned_down (Err told) refusal is e same = rw (is, same, ← e) refl

  pub carried_out : {done : Done} {accepted : Scalars} → none ≡ first_of causes → done ≡ record { answer = answer 0; scalars = accepted } → book_of accepted after ≡ next → applied_at done after ≡ applied_by (first_of causes) (book_of scalars rows) next
  carried_out e made same = rw (made, ← e) (ap (λ (book : Book). record { answer = answer 0; book = book }) same)
