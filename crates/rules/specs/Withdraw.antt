-- "8 Withdraw, in Trading: puts an application down." It is looked at in the evening. (arts. 45, 50 to 53)
-- Assumes nothing.
use Rattle.std.specs.Prelude.{ℕ, ◌+◌, cond, not, List, [], ◌∷◌, ltb, leb, eqb, get_or, set}
use Rattle.money.specs.Causes.{Cause, ◌⇒◌}
use Rattle.money.specs.Collateral.{cash_kind}
use Rattle.rules.specs.Folds.{sum_below}
use Rattle.rules.specs.Limits.{application_limit}
use Rattle.rules.specs.Book.{Withdrawals, Book, is_trading, is_terminated, with_withdrawals}
use Rattle.rules.specs.Vault.{effective_of, frozen_of}

-- the units of a kind that stand applied for
unfoldable pub applied : Withdrawals → ℕ → ℕ
applied withdrawals kind =
    sum_below withdrawals.count (λ i. cond (eqb (get_or withdrawals.kinds i 0) kind) (get_or withdrawals.units i 0) 0)

-- 13: "with frozen and applied units above effective"
unfoldable pub withdraw_causes : Book → (kind units : ℕ) → List Cause
withdraw_causes book kind units =
    (ltb cash_kind kind ⇒ 3)
    ∷ (not (is_trading book.standing.phase) ⇒ 4)
    ∷ (is_terminated book.standing.status ⇒ 5)
    ∷ (eqb units 0 ⇒ 7)
    ∷ (ltb (effective_of book.vault kind) (units + frozen_of book.vault kind + applied book.withdrawals kind) ⇒ 13)
    ∷ (leb application_limit book.withdrawals.count ⇒ 17)
    ∷ []

unfoldable pub withdrawn : Book → (kind units : ℕ) → Book
withdrawn book kind units =
    with_withdrawals
    (record {
      kinds = set book.withdrawals.kinds book.withdrawals.count kind;
      units = set book.withdrawals.units book.withdrawals.count units;
      count = book.withdrawals.count + 1;
    })
    book
