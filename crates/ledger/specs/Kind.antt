-- The number of a kind of collateral that has a name: its security's, or that of guarantee cash.
-- Assumes nothing.
use Rattle.std.specs.Prelude.{◌≡◌, ℕ, ◌<◌, ◌≤◌, Result, MatchResult}
use Rattle.money.specs.Collateral.{cash_kind}
use Rattle.money.specs.declared.refusal.Refusal.{Refusal}
use Rattle.money.specs.declared.refusal.Refusal.TheVariants.{UnknownKind}
pub use Rattle.ledger.specs.declared.kind.SecurityNumber.{SecurityNumber}
pub use Rattle.ledger.specs.declared.kind.Kind.{Kind}
use Rattle.ledger.specs.declared.kind.Kind.TheVariants.{Security, Cash}

abbrev pub kind_number : Kind → ℕ
kind_number (Security security) = security.number
kind_number Cash = cash_kind

-- the kind of a number, or why there is none: 3
abbrev pub NamesSecurity : ℕ → Result SecurityNumber Refusal → Type 0
NamesSecurity number told = MatchResult told (λ security. security.number ≡ number) (λ refusal. (cash_kind ≤ number) × (refusal ≡ UnknownKind))

abbrev pub NamesKind : ℕ → Result Kind Refusal → Type 0
NamesKind number told = MatchResult told (λ kind. kind_number kind ≡ number) (λ refusal. (cash_kind < number) × (refusal ≡ UnknownKind))
