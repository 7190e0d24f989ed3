-- A row that a loop fills from the front: as far as it is filled it has the elements of another. And numbers copied to their place in a row.
-- For what fills and writes rows. Assumes nothing.
use Rattle.std.specs.Prelude.{◌≡◌, ℕ, ◌+◌, ◌-◌, ◌<◌, ◌≤◌, List, ◌++◌, length, get_or, set, take, drop}
use mathlib.Core.Path.{refl, sym, ap, ◌∙◌}
use native.Mathlib.Omega.{arith}
use native.Mathlib.Decide.{ℕ_discrete}
use borrow.Rule.Slice.PartMut.{put_mid}
use Rattle.std.proofs.lemmas.List.{take_all}
use Rattle.std.proofs.lemmas.Slice.{put_mid-paste}
use lib.Seq.{sets, sets-eq, get_or-set_same, get_or-set_other, ext_get_or}

module _ {A : Type 0} (d : A) where
  pub record Filled (row from : List A) (n : ℕ) : Type 0 where
    pub same : (k : ℕ) → k < n → get_or row k d ≡ get_or from k d

  pub none_filled : (row from : List A) → Filled row from 0
  none_filled row from = record { same = λ k h. absurd (omega arith) }

  pub one-filled : (row from : List A) (n : ℕ) (a : A) → n < length row → Filled row from n → a ≡ get_or from n d → Filled (set row n a) from (n + 1)
  one-filled row from n a l filled e = record { same = λ k h. by k h (ℕ_discrete k n) }
    where
      by : (k : ℕ) → k < n + 1 → Dec (k ≡ n) → get_or (set row n a) k d ≡ get_or from k d
      by k h (yes q) = rw q (get_or-set_same row n a d l ∙ e)
      by k h (no q) = get_or-set_other row n k a d q ∙ filled.same k (omega arith)

  pub all-filled : (row from : List A) (n : ℕ) → length row ≡ n → length from ≡ n → Filled row from n → row ≡ from
  all-filled row from n e f filled = ext_get_or d row from (e ∙ sym f) (λ k h. filled.same k (omega arith))

-- ---- a row of numbers copied to its place

pub row-put : (l : List ℕ) (at : ℕ) (row : List ℕ) → at + length row ≤ length l → put_mid at (at + length row - at) l row ≡ sets l at row
row-put l at row h =
    put_mid-paste at _ l row row (length row) refl (omega arith) refl
    ∙ ap (λ (r : List ℕ). take at l ++ r ++ drop (at + length row) l) (take_all (length row) row (omega arith))
    ∙ sym (sets-eq row l at h)
