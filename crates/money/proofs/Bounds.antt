-- The bounds of results, from bounds of what goes in, and how they grow.
-- Assumes nothing.
use mathlib.Core.Path.{◌≡◌, refl}
use mathlib.Core.Bool.{Bool, true, false, cond}
use Prim.Native.Nat.{ℕ, ◌-◌, ◌*◌, ◌/◌, ◌≤◌}
use native.Mathlib.Nat.{mul-le-mul, mul_assoc, mul_comm, zero-mul}
use native.Mathlib.Omega.{arith}
use lib.Dec.{eqb}
use Rattle.money.specs.Units.{Sheets, Ticks}
use Rattle.money.specs.Limits.{unit_limit, cash_limit, rate_limit, price_limit, term_limit}
use Rattle.money.specs.Money.{principal, income, redemption}
use Rattle.money.specs.Collateral.{cash_kind, rate_of, unit_limit_of, kind_value}

-- a product of two and of three
pub product : {a b : ℕ} (x y : ℕ) → x ≤ a → y ≤ b → x * y ≤ a * b
product x y h k = mul-le-mul h k

pub product-of-three : {a b c : ℕ} (x y z : ℕ) → x ≤ a → y ≤ b → z ≤ c → x * y * z ≤ a * b * c
product-of-three x y z h k l = mul-le-mul (mul-le-mul h k) l

-- ---- amounts

-- nothing redeemed is nothing paid
pub no-sheets : (q : Sheets) (price : Ticks) (days : ℕ) → q.0 ≡ 0 → (redemption q price days).0 ≡ 0
unfolding redemption principal income
no-sheets q price days e = simp (e, zero-mul) refl

-- a redemption, at the highest price over the longest term, is at most 1,062,055 fen a sheet
pub redemption-bound : (q : Sheets) (price : Ticks) (days : ℕ) → price.0 ≤ price_limit → days ≤ term_limit → (redemption q price days).0 ≤ 1062055 * q.0
unfolding redemption principal income
redemption-bound q price days h k = omega (arith, flat)
  where
    yield : price.0 * days ≤ 3840000000
    yield = product price.0 days h k

    flat : q.0 * price.0 * days ≤ 3840000000 * q.0
    flat = rw (mul_assoc q.0 price.0 days) (rw (mul_comm q.0 (price.0 * days)) (product (price.0 * days) q.0 yield (omega arith)))

-- ---- a kind's value

-- at most 2 × 10^12 sheets of a security and 10^12 of cash
pub value-bound : (kind effective frozen rate : ℕ) → effective ≤ unit_limit_of kind → rate_of kind rate ≤ rate_limit → (kind_value kind effective frozen rate).0 ≤ 2000000000000
unfolding kind_value
value-bound kind effective frozen rate h k = by_kind (eqb kind cash_kind) h k
  where
    by_kind : (cash : Bool) → effective ≤ cond cash cash_limit unit_limit → cond cash 1 rate ≤ rate_limit → (effective - frozen) * cond cash 1 rate / 10000 ≤ 2000000000000
    by_kind true h k = omega arith
    by_kind false h k = let free : effective - frozen ≤ unit_limit = omega arith in omega (arith, product (effective - frozen) rate free k)
