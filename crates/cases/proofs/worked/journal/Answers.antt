use mathlib.Core.Path.{refl}
use Rattle.std.specs.Prelude.{true}
use native.Mathlib.Omega.{arith}
use Rattle.cases.specs.Journal.{ends_with}
use Rattle.cases.proofs.worked.journal.Goals as goal

pub expect_lines-requires : goal.expect_lines-requires
unfolding ends_with
expect_lines-requires c =
    (omega arith, omega arith, refl, omega arith, refl {a = true})
