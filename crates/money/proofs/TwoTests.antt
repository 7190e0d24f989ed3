-- Two tests joined: both hold where the pair does, and the other way round.
-- Assumes nothing.
use mathlib.Core.Path.{◌≡◌, refl}
use mathlib.Core.Bool.{Bool, true, false, ◌&&◌}
use Prim.Native.Nat.{ℕ}
use native.Mathlib.Omega.{arith}

pub both : (x y : Bool) → (x && y) ≡ true → (x ≡ true) × (y ≡ true)
both true y e = (refl, e)
both false y e = let z : ◌≡◌ {A = ℕ} 0 1 = cc in absurd (omega arith)

pub both_of : (x y : Bool) → x ≡ true → y ≡ true → (x && y) ≡ true
both_of true y e f = f
both_of false y e f = e
