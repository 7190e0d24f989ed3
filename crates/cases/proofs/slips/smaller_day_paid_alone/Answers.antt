use mathlib.Core.Path.{refl}
use Rattle.std.specs.Prelude.{true}
use native.Mathlib.Omega.{arith}
use Rattle.cases.specs.Journal.{ends_with}
use Rattle.cases.proofs.slips.smaller_day_paid_alone.Goals as goal

pub expect_lines-requires : goal.expect_lines-requires
unfolding ends_with
expect_lines-requires c =
    (omega arith, omega arith, refl, omega arith, refl {a = true})

pub expect_lines-requires-2 : goal.expect_lines-requires-2
unfolding ends_with
expect_lines-requires-2 c =
    (omega arith, omega arith, refl, omega arith, refl {a = true})
