use Rattle.std.specs.Prelude.{◌≡◌, ◌≤◌, pos, ◌-ℤ◌}
use mathlib.Core.Path.{ap, ◌∙◌}
use native.Mathlib.Omega.{arith}
use lib.IntN.{sub_ℕ}
use mir.Val.{SFits, to_z, of_z}
use mir.Syntax.{w64}
use mir.ValLaws.{to_z-of_z, to_z_pos}
use Rattle.money.specs.Units.{signed_sheets}
use Rattle.ledger.proofs.NetLaws.{small-fits, plus-negative}
use Rattle.ledger.proofs.CoverLaws.{small-difference}
use Rattle.ledger.proofs.cover.headroom_from.Goals as goal

pub returns : goal.returns
returns c =
    let low : c.smaller-covered.result.0 ≤ 10000000000 = omega (arith, c.smaller-covered.ensures, c.requires.0) in
    let difference : to_z w64 c.smaller-covered.result.0 -ℤ to_z w64 c.args.outstanding.0 ≡ sub_ℕ c.smaller-covered.result.0 c.args.outstanding.0 = ap (λ z. z -ℤ to_z w64 c.args.outstanding.0) (to_z_pos w64 c.smaller-covered.result.0 (omega (arith, low)))
    ∙ ap (λ z. pos c.smaller-covered.result.0 -ℤ z) (to_z_pos w64 c.args.outstanding.0 (omega (arith, c.requires.1)))
    ∙ plus-negative c.smaller-covered.result.0 c.args.outstanding.0 in
    let fits : SFits w64 (sub_ℕ c.smaller-covered.result.0 c.args.outstanding.0) = small-fits (sub_ℕ c.smaller-covered.result.0 c.args.outstanding.0) (omega (arith, small-difference c.smaller-covered.result.0 c.args.outstanding.0 low c.requires.1)) in
    ap signed_sheets (ap (λ z. to_z w64 (of_z w64 z)) difference ∙ to_z-of_z w64 (sub_ℕ c.smaller-covered.result.0 c.args.outstanding.0) fits ∙ ap (λ n. sub_ℕ n c.args.outstanding.0) c.smaller-covered.ensures)

pub overflow_cast-had : goal.overflow_cast-had
overflow_cast-had c =
    let low : c.smaller-covered.result.0 ≤ 10000000000 = omega (arith, c.smaller-covered.ensures, c.requires.0) in
    small-fits (pos c.smaller-covered.result.0) (omega (arith, low))

pub overflow_cast-taken : goal.overflow_cast-taken
overflow_cast-taken c =
    small-fits (pos c.args.outstanding.0) (omega (arith, c.requires.1))

pub overflow_sub-difference : goal.overflow_sub-difference
overflow_sub-difference c =
    let low : c.smaller-covered.result.0 ≤ 10000000000 = omega (arith, c.smaller-covered.ensures, c.requires.0) in
    let difference : to_z w64 c.smaller-covered.result.0 -ℤ to_z w64 c.args.outstanding.0 ≡ sub_ℕ c.smaller-covered.result.0 c.args.outstanding.0 = ap (λ z. z -ℤ to_z w64 c.args.outstanding.0) (to_z_pos w64 c.smaller-covered.result.0 (omega (arith, low)))
    ∙ ap (λ z. pos c.smaller-covered.result.0 -ℤ z) (to_z_pos w64 c.args.outstanding.0 (omega (arith, c.requires.1)))
    ∙ plus-negative c.smaller-covered.result.0 c.args.outstanding.0 in
    let fits : SFits w64 (sub_ℕ c.smaller-covered.result.0 c.args.outstanding.0) = small-fits (sub_ℕ c.smaller-covered.result.0 c.args.outstanding.0) (omega (arith, small-difference c.smaller-covered.result.0 c.args.outstanding.0 low c.requires.1)) in
    rw difference fits
