use Rattle.std.specs.Prelude.{◌≡◌, ℕ, false, Option, is_some, Result, Err, ok_or}
use Rattle.std.proofs.Common.{rules}
use mathlib.Core.Path.{refl, sym, ◌∙◌}
use native.Mathlib.Omega.{arith}
use borrow.Author.Tests.{le-leb, lt-leb}
use Rattle.money.specs.declared.refusal.Refusal.{Refusal}
use Rattle.money.specs.Causes.{first_of}
use Rattle.ledger.specs.Types.{Some, None}
use Rattle.ledger.specs.Flat.{StandsAt}
use Rattle.ledger.proofs.Refusing.{told-on}
use Rattle.ledger.proofs.ContractLaws.{missing, present, trade-here}
use Rattle.ledger.proofs.early.named_place.Goals as goal

-- what is refused was not found
not-found : (found : Option ℕ) (told refusal : Refusal) → ◌≡◌ {A = Result ℕ Refusal} (Err told) (ok_or found refusal) → (told ≡ refusal) × (is_some found ≡ false)
not-found None told refusal e = (cc, refl)
not-found (Some place) told refusal e = absurd (let z : ◌≡◌ {A = ℕ} 0 1 = cc in omega arith)

pub returns-in_err-place-clause-refused : goal.returns-in_err-place-clause-refused
unfolding first_of
returns-in_err-place-clause-refused c rows =
    let none = not-found c.place_of.result c.in_err-place.field-0.0 _ c.in_err-place.ensures.value in
    told-on _ _ c.from_residual.ensures.1 (rw (none.0, missing _ _ _ c.requires (sym c.place_of.ensures.on_table ∙ none.1)) refl)

pub returns-then-due_at-day_number-clause-refused : goal.returns-then-due_at-day_number-clause-refused
unfolding first_of
returns-then-due_at-day_number-clause-refused c rows =
    let stands : StandsAt c.args.table.now c.args.scalars.trades c.args.contract c.in_ok-place.place = search rules in
    rw (present _ _ _ _ c.requires stands, trade-here _ _ _ _ c.requires stands, ← c.due_at.ensures, ← c.day_number.ensures, le-leb _ _ c.if-due_at-day_number.true) refl

pub returns-clause-refused : goal.returns-clause-refused
unfolding first_of
returns-clause-refused c rows =
    let stands : StandsAt c.args.table.now c.args.scalars.trades c.args.contract c.in_ok-place.place = search rules in
    rw (present _ _ _ _ c.requires stands, trade-here _ _ _ _ c.requires stands, ← c.due_at.ensures, ← c.day_number.ensures, lt-leb _ _ c.if-due_at-day_number.false) refl
