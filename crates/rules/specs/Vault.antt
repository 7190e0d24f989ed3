-- Collateral, its value V, and headroom. (01, Collateral and headroom; arts. 4, 41 to 43, 54)
-- Assumes nothing.
use Rattle.std.specs.Prelude.{ℕ, min, Bool, cond, List, eqb, ℤ, get_or, set}
use Rattle.std.proofs.Math.IntN.{sub_ℕ}
use Rattle.money.specs.Collateral.{cash_kind, kind_value}
use Rattle.rules.specs.Folds.{sum_below}
use Rattle.rules.specs.Book.{Security, Vault, Book, no_security}
use Rattle.rules.specs.Trades.{Trade, in_use, outstanding}

-- ---- "A kind has effective, arriving and frozen units": kinds 0 to 31 are securities, kind 32 is guarantee cash

abbrev pub security_at : Vault → ℕ → Security
security_at vault kind = get_or vault.securities kind no_security

abbrev pub is_cash : ℕ → Bool
is_cash kind = eqb kind cash_kind

abbrev pub effective_of : Vault → ℕ → ℕ
effective_of vault kind = cond (is_cash kind) vault.guarantee.effective.0 (security_at vault kind).effective

abbrev pub frozen_of : Vault → ℕ → ℕ
frozen_of vault kind = cond (is_cash kind) vault.guarantee.frozen.0 (security_at vault kind).frozen

-- ---- a kind set anew

abbrev pub with_security : ℕ → Security → Vault → Vault
with_security kind security vault = record { guarantee = vault.guarantee; securities = set vault.securities kind security }

-- ---- value and headroom

-- "V is the sum over all 33."
unfoldable pub value : Vault → ℕ
value vault = sum_below 33 (λ kind. (kind_value kind (effective_of vault kind) (frozen_of vault kind) (security_at vault kind).rate).0)

-- "Headroom is the smaller of S and V, less O; it may be negative."
abbrev pub headroom_of : (size value outstanding : ℕ) → ℤ
headroom_of size value outstanding = sub_ℕ (min size value) outstanding

-- O and headroom of a book over its table
abbrev pub outstanding_of : Book → List Trade → ℕ
outstanding_of book table = outstanding (in_use book.trades table)

unfoldable pub headroom : Book → List Trade → ℤ
headroom book table = headroom_of book.size.0 (value book.vault) (outstanding_of book table)
