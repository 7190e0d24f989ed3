use Rattle.std.specs.Prelude.{◌≡◌, ◌+◌}
use native.Mathlib.Omega.{arith}
use borrow.Author.Tests.{eq-eqb}
use Rattle.money.specs.Causes.{first_of}
use Rattle.money.specs.Collateral.{kind_value, kind_worth}
use Rattle.cases.proofs.amounts.values.Goals as goal

pub expect-requires : goal.expect-requires
unfolding kind_worth first_of kind_value
expect-requires c =
    eq-eqb c.value-m4.result.0 179 c.value-m4.ensures

pub overflow_add-one : goal.overflow_add-one
unfolding kind_worth first_of kind_value
overflow_add-one c =
    let four : (c.value-one.result.0 ≡ 4) × (c.value-other.result.0 ≡ 4) = (c.value-one.ensures, c.value-other.ensures) in
    record { fits = omega (arith, four) }

pub expect-requires-2 : goal.expect-requires-2
unfolding kind_worth first_of kind_value
expect-requires-2 c =
    let four : (c.value-one.result.0 ≡ 4) × (c.value-other.result.0 ≡ 4) = (c.value-one.ensures, c.value-other.ensures) in
    eq-eqb (c.value-one.result.0 + c.value-other.result.0) 8 (omega (arith, four))

pub expect-requires-3 : goal.expect-requires-3
unfolding kind_worth first_of kind_value
expect-requires-3 c =
    eq-eqb c.value-m6.result.0 1 c.value-m6.ensures
