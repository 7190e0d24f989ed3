-- Headroom and O of any book: refused where cause 1 applies, counted where it does not; and that headroom is small.
-- For the proofs of cover.rt and lent.rt. Assumes nothing.
use Rattle.std.specs.Prelude.{◌≡◌, ℕ, suc, ◌-◌, ◌≤◌, Bool, true, false, cond, ltb, List, pos, negsuc, nat_abs}
use native.Mathlib.Omega.{arith}
use lib.IntN.{sub_ℕ}
use Rattle.money.specs.Days.{Calendar}
use Rattle.rules.specs.Step.{unfit}
use Rattle.rules.specs.Cover.{cover_counted, cover_refused, cover_of}
use Rattle.ledger.specs.Types.{Book, Trade}

pub small-difference : (a b : ℕ) → a ≤ 10000000000 → b ≤ 10000000000 → nat_abs (sub_ℕ a b) ≤ 10000000000
small-difference a b h k = by_order (ltb a b)
  where
    by_order : (t : Bool) → nat_abs (cond t (negsuc (b - suc a)) (pos (a - b))) ≤ 10000000000
    by_order true = omega arith
    by_order false = omega arith

module _ (calendar : Calendar) (book : Book) (table : List Trade) where
  pub unfit-cover : unfit calendar book table ≡ true → cover_of calendar book table ≡ cover_refused
  unfolding cover_of
  unfit-cover e = rw e

  pub fit-cover : unfit calendar book table ≡ false → cover_of calendar book table ≡ cover_counted book table
  unfolding cover_of
  fit-cover e = rw e
