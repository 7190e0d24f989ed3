-- A range of places gone over by an iterator: a test asked of each, by `all` or `any`, a sum, and an array made of what a function gives.
-- For the functions over the row of securities and postings. Assumes nothing.
use Rattle.std.specs.Prelude.{◌≡◌, ℕ, zero, suc, ◌+◌, ◌<◌, ◌≤◌, Bool, true, false, List, map, sum, length, get_or}
use mathlib.Core.Path.{refl, sym, ap, ◌∙◌}
use mathlib.Core.Bool.{false≢true}
use native.Mathlib.Omega.{arith}
use native.Mathlib.Decide.{ℕ_discrete}
use lib.Seq.{ext_get_or}
use Rattle.std.specs.Array.{IsFromFnResult, IsFromFnResultFrom}
use native.Mathlib.Nat.{zero-add}
use native.Mathlib.Numerals.{add-one}
use denote.Param.Members.{Mut, Called}
use Rattle.std.specs.declared.ops.Range.{Range}
use Rattle.std.specs.Bool.{MatchBool}
use Rattle.std.specs.Iterator.{ChecksAll, ChecksAny}
use Rattle.std.specs.List.{AllWithin, HoldsAt, range_with_len}
use Rattle.std.proofs.iter.Yields.{nat_range_steps}
use Rattle.std.proofs.lemmas.Iterator.{YieldsList-from_range, cases_from_all, cases_from_any}
use Rattle.std.proofs.lemmas.List.FromFn.{length-range_with_len, get_or-range_with_len, sum_by-map-range_with_len_more}
use Rattle.rules.specs.Folds.{sum_below, all_below}
use Rattle.rules.proofs.FoldLaws.{all_of}
use Rattle.ledger.specs.Flat.{up_to}
use Rattle.ledger.proofs.SumLaws.{one-fails}
use Rattle.ledger.proofs.UpToLaws.{length-up-to, up-to-below}

-- each call of a closure answers what a function gives, and leaves the closure as it was
abbrev pub Tells : {F B : Type 0} → Mut F (ℕ × Unit {0}) B → F → (ℕ → B) → Type 0
Tells {F} {B} g f h = (k : ℕ) (r : B) (q : F) → Called g f (k, tt) r q → (q ≡ f) × (r ≡ h k)

-- the range, and what stands at a place of it
abbrev below : ℕ → List ℕ
below n = range_with_len 0 n

within : (n k : ℕ) → k < n → k < length (below n)
within n k h = omega (arith, length-range_with_len 0 n)

item : (n k : ℕ) → k < length (below n) → get_or (below n) k 0 ≡ k
item n k h = get_or-range_with_len 0 n k 0 (omega (arith, length-range_with_len 0 n)) ∙ zero-add k

module _ (n : ℕ) (p : ℕ → Bool) where
  abbrev AllAre : Bool → Type 0
  AllAre b = AllWithin (λ k. p k ≡ b) (below n) 0 (length (below n))

  abbrev OneIs : Bool → Type 0
  OneIs b = (k : ℕ) × (k < length (below n)) × HoldsAt (λ k. p k ≡ b) (below n) k

  all-are : (b : Bool) → AllAre b → (k : ℕ) → k < n → p k ≡ b
  all-are b all k h = sym (ap p (item n k (within n k h))) ∙ all k 0 (omega arith) (within n k h)

  checked : (r : Bool) → MatchBool r (AllAre true) (OneIs false) → r ≡ all_below n p
  checked true all = sym (all_of n p (all-are true all))
  checked false one =
      sym (one-fails n p one.0 (omega (arith, one.1, length-range_with_len 0 n)) (sym (ap p (item n one.0 one.1)) ∙ one.2 0))

  pub all-over : {F : Type 0} {g : Mut F (ℕ × Unit {0}) Bool} {f : F} {u : Range ℕ} (r : Bool)
      → ChecksAll nat_range_steps g (record { start = 0; end = n }) f r u → Tells g f p → r ≡ all_below n p
  all-over {F} {g} {f} r ran tells =
      checked r
      (cases_from_all _ f r (λ k. p k ≡ true) (λ k. p k ≡ false) ran (YieldsList-from_range 0 n n refl (omega arith))
      (λ k q called. let a = tells k true q called in (a.0, sym a.1)) (λ k q called. sym (tells k false q called).1))

  passed : (r : Bool) → MatchBool r (OneIs true) (AllAre false) → r ≡ false → (k : ℕ) → k < n → p k ≡ false
  passed true one e = absurd (false≢true (sym e))
  passed false none e = all-are false none

  pub none-over : {F : Type 0} {g : Mut F (ℕ × Unit {0}) Bool} {f : F} {u : Range ℕ} (r : Bool)
      → ChecksAny nat_range_steps g (record { start = 0; end = n }) f r u → Tells g f p → r ≡ false → (k : ℕ) → k < n → p k ≡ false
  none-over {F} {g} {f} r ran tells =
      passed r
      (cases_from_any _ f r (λ k. p k ≡ true) (λ k. p k ≡ false) ran (YieldsList-from_range 0 n n refl (omega arith))
      (λ k q called. sym (tells k true q called).1) (λ k q called. let a = tells k false q called in (a.0, sym a.1)))

-- ---- a sum over the numbers below another

pub sum-over : (f : ℕ → ℕ) (n : ℕ) → sum (map f (range_with_len 0 n)) ≡ sum_below n f
unfolding sum_below
sum-over f zero = refl
sum-over f (suc n) =
    rw (add-one n) at (sum_by-map-range_with_len_more (λ x. x) f 0 n n (zero-add n)) ∙ ap (λ t. t + f n) (sum-over f n)

-- ---- an array made from a function of the place

module _ {F B : Type 0} {g : Mut F (ℕ × Unit {0}) B} (h : ℕ → B) (f : F) (ys : List B) (d : B) (tells : Tells g f h) where
  made-each : (i n : ℕ) → IsFromFnResultFrom g f ys i n → (k : ℕ) → i ≤ k → k < i + n → get_or ys k d ≡ h k
  made-each i zero each k low high = absurd (omega arith)
  made-each i (suc n) each k low high =
      by (ℕ_discrete k i) (made-each (i + 1) n (rw (tells i each.1 each.0 each.3).0 at each.4) k)
    where
      by : Dec (k ≡ i) → (i + 1 ≤ k → k < i + 1 + n → get_or ys k d ≡ h k) → get_or ys k d ≡ h k
      by (yes e) rec = rw e (each.2.1 d ∙ (tells i each.1 each.0 each.3).1)
      by (no other) rec = rec (omega arith) (omega arith)

  pub made-by : (n : ℕ) → IsFromFnResult g f ys n → ys ≡ up_to h n
  made-by n made =
      ext_get_or d ys (up_to h n) (made.long ∙ sym (length-up-to h n))
      (λ k l.
      let inside : k < n = omega (arith, made.long) in
      made-each 0 n made.each k (omega arith) (omega arith) ∙ sym (up-to-below h d n k inside))
