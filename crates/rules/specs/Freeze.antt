-- "7 Freeze: sets frozen units." It fits any phase and acts immediately. (art. 54)
-- Assumes nothing.
use Rattle.std.specs.Prelude.{ℕ, cond, List, [], ◌∷◌, ltb, set}
use Rattle.money.specs.Units.{fen}
use Rattle.money.specs.Causes.{Cause, ◌⇒◌}
use Rattle.money.specs.Collateral.{cash_kind}
use Rattle.rules.specs.Book.{Security, Guarantee, Book, with_vault}
use Rattle.rules.specs.Vault.{security_at, is_cash, effective_of}

unfoldable pub freeze_causes : Book → (kind units : ℕ) → List Cause
freeze_causes book kind units =
    (ltb cash_kind kind ⇒ 3)
    ∷ (ltb (effective_of book.vault kind) units ⇒ 13)
    ∷ []

abbrev pub with_frozen : ℕ → Security → Security
with_frozen units security = record { effective = security.effective; arriving = security.arriving; frozen = units; rate = security.rate }

abbrev pub cash_frozen : ℕ → Guarantee → Guarantee
cash_frozen units guarantee = record { effective = guarantee.effective; arriving = guarantee.arriving; frozen = fen units }

unfoldable pub frozen : Book → (kind units : ℕ) → Book
frozen book kind units =
    with_vault
    (record {
      guarantee = cond (is_cash kind) (cash_frozen units book.vault.guarantee) book.vault.guarantee;
      securities = cond (is_cash kind) book.vault.securities (set book.vault.securities kind (with_frozen units (security_at book.vault kind)));
    })
    book
