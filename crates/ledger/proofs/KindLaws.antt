-- A kind's number is that of a security or of guarantee cash, and each such number has a kind.
-- Assumes nothing.
use Rattle.std.specs.Prelude.{ℕ, ◌<◌, ◌≤◌, Result, Ok, Err}
use Rattle.std.specs.Prelude.{IsOk}
use Rattle.money.specs.declared.refusal.Refusal.{Refusal}
use mathlib.Core.Path.{refl}
use native.Mathlib.Omega.{arith}
use Rattle.ledger.specs.Kind.{Kind, kind_number, NamesKind}
use Rattle.ledger.specs.declared.kind.Kind.TheVariants.{Security, Cash}

pub number_known : (kind : Kind) → kind_number kind ≤ 32
number_known (Security at) = let known : at.number < 32 = at.known in omega arith
number_known Cash = omega arith

pub found-known : (told : Result Kind Refusal) (number : ℕ) → number ≤ 32 → NamesKind number told → IsOk told
found-known (Ok kind) number h told = refl
found-known (Err refusal) number h above = absurd (omega (arith, above.0))
