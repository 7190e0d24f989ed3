-- An event and the fields that it does not use, field by field: for the early returns of a shape and for what stands after them.
-- Assumes nothing.
use mathlib.Core.Path.{◌≡◌, refl}
use mathlib.Core.List.{List, [], ◌∷◌}
use Prim.Native.Nat.{ℕ}
use borrow.Author.Tests.{eq-eqb, ne_eqb}
use Rattle.rules.specs.Entry.{Event, Entry, Some, None, unless}

-- the field in front is not 0
pub used : (event : Event) {field : ℕ} (unused : List ℕ) → (field ≡ 0 → ⊥) → None ≡ unless event (field ∷ unused)
unfolding unless
used event {field} unused not-zero = rw (ne_eqb field 0 not-zero) refl

-- it is, and the others decide
pub zero : (event : Event) {field : ℕ} (unused : List ℕ) {entry : Entry} → field ≡ 0 → entry ≡ unless event unused → entry ≡ unless event (field ∷ unused)
unfolding unless
zero event {field} unused is_zero others = rw (eq-eqb field 0 is_zero) others

-- none is left
pub known : (event : Event) → Some event ≡ unless event []
unfolding unless
known event = refl

-- for a column of tests, field by field
pub ruleset unused_fields = (used, zero, known)
