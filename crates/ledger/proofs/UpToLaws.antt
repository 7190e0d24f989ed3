-- The first elements that a function gives, in a row: how many there are, which stands where, and when two rows are the same.
-- For the securities and the postings in their row. Assumes nothing.
use Rattle.std.specs.Prelude.{◌≡◌, ℕ, zero, suc, ◌<◌, [], ◌∷◌, ◌++◌, length, get_or}
use mathlib.Core.Path.{refl, ap, ◌∙◌}
use native.Mathlib.Omega.{arith}
use native.Mathlib.Decide.{dec_lt}
use lib.ListN.{length-append, get_or-append}
use lib.Seq.{get_or_at}
use Rattle.ledger.specs.Flat.{up_to}

module _ {A : Type 0} (f : ℕ → A) where
  none-up-to : up_to f 0 ≡ []
  unfolding up_to
  none-up-to = refl

  next-up-to : (n : ℕ) → up_to f (suc n) ≡ up_to f n ++ (f n ∷ [])
  unfolding up_to
  next-up-to n = refl

  pub length-up-to : (n : ℕ) → length (up_to f n) ≡ n
  length-up-to zero = ap length none-up-to
  length-up-to (suc n) = rw (next-up-to n, length-append (up_to f n) (f n ∷ [])) (omega (arith, length-up-to n))

  pub up-to-below : (d : A) (n i : ℕ) → i < n → get_or (up_to f n) i d ≡ f i
  up-to-below d zero i h = absurd (omega arith)
  up-to-below d (suc n) i h = rw (next-up-to n) (by (dec_lt i n) (up-to-below d n i))
    where
      by : Dec (i < n) → (i < n → get_or (up_to f n) i d ≡ f i) → get_or (up_to f n ++ (f n ∷ [])) i d ≡ f i
      by (yes l) rec = get_or-append (up_to f n) (f n ∷ []) d i (omega (arith, length-up-to n)) ∙ rec l
      by (no g) rec =
          let e : i ≡ n = omega arith in
          rw e (get_or_at (up_to f n) (f n) [] d n (length-up-to n))

pub same-up-to : {A : Type 0} (f g : ℕ → A) (n : ℕ) → ((i : ℕ) → i < n → f i ≡ g i) → up_to f n ≡ up_to g n
unfolding up_to
same-up-to f g zero h = refl
same-up-to f g (suc n) h = rw (same-up-to f g n (λ i l. h i (omega arith)), h n (omega arith)) refl
