-- "6 Pledge, in Trading: units arrive; cash moves from own into arriving. They count from the next close." (arts. 43, 47, 52)
-- Assumes nothing.
use Rattle.std.specs.Prelude.{ℕ, ◌+◌, ◌-◌, cond, not, ◌&&◌, List, [], ◌∷◌, ltb, eqb, set}
use Rattle.money.specs.Units.{fen}
use Rattle.money.specs.Limits.{unit_limit}
use Rattle.money.specs.Causes.{Cause, ◌⇒◌}
use Rattle.money.specs.Collateral.{cash_kind}
use Rattle.rules.specs.Book.{Security, Guarantee, Book, is_trading, with_cash, with_vault}
use Rattle.rules.specs.Vault.{security_at, is_cash}

unfoldable pub pledge_causes : Book → (kind units : ℕ) → List Cause
pledge_causes book kind units =
    (ltb cash_kind kind ⇒ 3)
    ∷ (not (is_trading book.standing.phase) ⇒ 4)
    ∷ (eqb units 0 ⇒ 7)
    ∷ (is_cash kind && ltb book.cash.own.0 units ⇒ 13)
    ∷ (not (is_cash kind) && ltb unit_limit ((security_at book.vault kind).effective + (security_at book.vault kind).arriving + units) ⇒ 14)
    ∷ []

abbrev pub arrived : ℕ → Security → Security
arrived units security = record { effective = security.effective; arriving = security.arriving + units; frozen = security.frozen; rate = security.rate }

abbrev pub cash_arrived : ℕ → Guarantee → Guarantee
cash_arrived units guarantee = record { effective = guarantee.effective; arriving = fen (guarantee.arriving.0 + units); frozen = guarantee.frozen }

unfoldable pub pledged : Book → (kind units : ℕ) → Book
pledged book kind units =
    with_cash (record { own = fen (cond (is_cash kind) (book.cash.own.0 - units) book.cash.own.0); client = book.cash.client })
    (with_vault
    (record {
      guarantee = cond (is_cash kind) (cash_arrived units book.vault.guarantee) book.vault.guarantee;
      securities = cond (is_cash kind) book.vault.securities (set book.vault.securities kind (arrived units (security_at book.vault kind)));
    })
    book)
