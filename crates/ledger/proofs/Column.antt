-- A refusal's column of early returns against its causes, cause by cause: a ruleset that search follows down the column.
-- Assumes nothing.
use Rattle.std.specs.Prelude.{◌≡◌, ℕ, ◌<◌, ◌≤◌, Bool, true, false, not, ◌&&◌, ◌||◌, ltb, List, [], ◌∷◌}
use mathlib.Core.Path.{refl, sym, ap, ◌∙◌}
use borrow.Author.Tests.{le-ltb, lt-ltb, le-leb, lt-leb, eq-eqb, ne_eqb}
use mathlib.Core.Option.{Option, none, some}
use Rattle.money.specs.Causes.{Cause, ◌⇒◌, first_of}
use Rattle.money.proofs.Refusals as R

-- the cause in front applies
pub applies : {test : Bool} (n : ℕ) (cs : List Cause) → test ≡ true → some n ≡ first_of ((test ⇒ n) ∷ cs)
applies n cs e = sym (R.hit n cs e)

-- it does not, and the others decide
pub passes : {test : Bool} (k : ℕ) {cause : Option ℕ} (cs : List Cause) → test ≡ false → cause ≡ first_of cs → cause ≡ first_of ((test ⇒ k) ∷ cs)
passes k cs e f = f ∙ sym (R.skip k cs e refl)

-- none is left
pub ends : none ≡ first_of []
ends = sym R.clear

-- a test that a call answered, and its negation
pub asked : {x r : Bool} → r ≡ x → r ≡ true → x ≡ true
asked e h = sym e ∙ h

pub asked-not : {x r : Bool} → r ≡ x → r ≡ false → x ≡ false
asked-not e h = sym e ∙ h

pub denied : {x r : Bool} → r ≡ x → not r ≡ true → not x ≡ true
denied e h = ap not (sym e) ∙ h

pub denied-not : {x r : Bool} → r ≡ x → not r ≡ false → not x ≡ false
denied-not e h = ap not (sym e) ∙ h

-- a number that a call answered, against another
pub asked-below : (x n : ℕ) {r : ℕ} → r ≡ x → r < n → ltb x n ≡ true
asked-below x n {r} e h = rw e at (lt-ltb r n h)

pub asked-not-below : (x n : ℕ) {r : ℕ} → r ≡ x → n ≤ r → ltb x n ≡ false
asked-not-below x n {r} e h = rw e at (le-ltb r n h)

pub asked-above : (n x : ℕ) {r : ℕ} → r ≡ x → n < r → ltb n x ≡ true
asked-above n x {r} e h = rw e at (lt-ltb n r h)

pub asked-not-above : (n x : ℕ) {r : ℕ} → r ≡ x → r ≤ n → ltb n x ≡ false
asked-not-above n x {r} e h = rw e at (le-ltb n r h)

-- two tests joined, and a test denied
pub both_hold : {x y : Bool} → x ≡ true → y ≡ true → (x && y) ≡ true
both_hold {x} {y} e f = rw (e, f)

pub first-fails : {x : Bool} (y : Bool) → x ≡ false → (x && y) ≡ false
first-fails y e = rw e

pub second-fails : (x : Bool) {y : Bool} → y ≡ false → (x && y) ≡ false
second-fails true e = e
second-fails false e = refl

-- two of which one is enough
pub first_holds : {x : Bool} (y : Bool) → x ≡ true → (x || y) ≡ true
first_holds y e = rw e

pub second_holds : (x : Bool) {y : Bool} → y ≡ true → (x || y) ≡ true
second_holds true e = refl
second_holds false e = e

pub neither-holds : {x y : Bool} → x ≡ false → y ≡ false → (x || y) ≡ false
neither-holds {x} {y} e f = rw (e, f)

pub failing-denied : {x : Bool} → x ≡ false → not x ≡ true
failing-denied e = ap not e

pub holding-denied : {x : Bool} → x ≡ true → not x ≡ false
holding-denied e = ap not e

-- the tests of a column: as the code asks them, and as a call answered them
pub ruleset asking = (le-ltb, lt-ltb, le-leb, lt-leb, eq-eqb, ne_eqb, asked, asked-not, denied, denied-not, asked-below, asked-not-below, asked-above, asked-not-above)

-- tests joined and denied
pub ruleset joining = (both_hold, first-fails, second-fails, first_holds, second_holds, neither-holds, failing-denied, holding-denied)

pub ruleset column = (applies, passes, ends, asking, joining)
