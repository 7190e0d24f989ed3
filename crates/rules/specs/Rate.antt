-- "5 Rate: sets a security's rate." It fits any phase and acts immediately.
-- Assumes nothing.
use Rattle.std.specs.Prelude.{ℕ, List, [], ◌∷◌, ltb, leb}
use Rattle.money.specs.Limits.{rate_limit}
use Rattle.money.specs.Causes.{Cause, ◌⇒◌}
use Rattle.money.specs.Collateral.{cash_kind}
use Rattle.rules.specs.Book.{Security, Book, with_vault}
use Rattle.rules.specs.Vault.{security_at, with_security}

-- "kind above 32; rate for 32" is 3
unfoldable pub rate_causes : (kind rate : ℕ) → List Cause
rate_causes kind rate =
    (leb cash_kind kind ⇒ 3)
    ∷ (ltb rate_limit rate ⇒ 14)
    ∷ []

abbrev pub with_rate : ℕ → Security → Security
with_rate rate security = record { effective = security.effective; arriving = security.arriving; frozen = security.frozen; rate = rate }

unfoldable pub rated : Book → (kind rate : ℕ) → Book
rated book kind rate = with_vault (with_security kind (with_rate rate (security_at book.vault kind)) book.vault) book
