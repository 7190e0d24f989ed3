-- The number of some bytes, taken apart into the first byte or the first four and the rest: for the decoder's reads.
-- Assumes nothing.
use mathlib.Core.Path.{◌≡◌, refl}
use mathlib.Core.List.{List}
use Prim.Native.Nat.{ℕ, suc, ◌+◌, ◌*◌, ◌/◌, ◌≤◌, ◌<◌}
use native.Mathlib.Numerals.{add-one}
use native.Mathlib.Omega.{arith}
use lib.ListN.{length, get_or}
use lib.Seq.{drop-cons}
use Rattle.rules.specs.Entry.{little_endian, number_at}

module _ (bytes : List ℕ) where
  pub no_bytes : (from : ℕ) → number_at from 0 bytes ≡ 0
  unfolding little_endian
  no_bytes from = refl

  pub first_byte : (from next width : ℕ) → next ≡ from + 1 → from < length bytes
      → number_at from (suc width) bytes ≡ get_or bytes from 0 + 256 * number_at next width bytes
  unfolding little_endian
  first_byte from next width follows inside = rw (follows, add-one from, drop-cons bytes from 0 inside) refl

  pub first_four : (from width : ℕ) → from + 4 ≤ length bytes
      → number_at from (suc (suc (suc (suc width)))) bytes
      ≡ get_or bytes from 0 + 256 * get_or bytes (from + 1) 0 + 65536 * get_or bytes (from + 2) 0 + 16777216 * get_or bytes (from + 3) 0
      + 4294967296 * number_at (from + 4) width bytes
  first_four from width inside =
      omega (
        arith,
        first_byte from (from + 1) (suc (suc (suc width))) refl (omega arith),
        first_byte (from + 1) (from + 2) (suc (suc width)) (omega arith) (omega arith),
        first_byte (from + 2) (from + 3) (suc width) (omega arith) (omega arith),
        first_byte (from + 3) (from + 4) width (omega arith) (omega arith),
      )

  pub four_and_rest : (from width : ℕ) → from + 4 ≤ length bytes
      → number_at from (suc (suc (suc (suc width)))) bytes ≡ number_at from 4 bytes + 4294967296 * number_at (from + 4) width bytes
  four_and_rest from width inside = omega (arith, first_four from width inside, first_four from 0 inside, no_bytes (from + 4))

  -- what stands after the first three bytes
  pub past_three : (width : ℕ) → 3 ≤ length bytes → get_or bytes 0 0 < 256 → get_or bytes 1 0 < 256 → get_or bytes 2 0 < 256
      → number_at 0 (suc (suc (suc width))) bytes / 16777216 ≡ number_at 3 width bytes
  past_three width inside first second third =
      omega (
        arith,
        first_byte 0 1 (suc (suc width)) refl (omega arith),
        first_byte 1 2 (suc width) refl (omega arith),
        first_byte 2 3 width refl (omega arith),
      )
