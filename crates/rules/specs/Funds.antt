-- "2, 3 Fund in, fund out: fen from or to outside." They fit any phase and act immediately.
-- Assumes nothing.
use Rattle.std.specs.Prelude.{ℕ, ◌+◌, ◌-◌, List, [], ◌∷◌, ltb, eqb}
use Rattle.money.specs.declared.units.Fen.{Fen}
use Rattle.money.specs.Units.{fen}
use Rattle.money.specs.Limits.{cash_limit}
use Rattle.money.specs.Causes.{Cause, ◌⇒◌}
use Rattle.rules.specs.Book.{Cash, Book, with_cash}
use Rattle.rules.specs.Entry.{Account, Own, Client}
use Rattle.rules.specs.Fit.{all_cash}

-- what an account holds
abbrev pub holds : Account → Cash → ℕ
holds Own cash = cash.own.0
holds Client cash = cash.client.0

-- an account that holds another sum
abbrev pub with_account : Account → ℕ → Cash → Cash
with_account Own sum cash = record { own = fen sum; client = cash.client }
with_account Client sum cash = record { own = cash.own; client = fen sum }

unfoldable pub fund_in_causes : Book → Account → Fen → List Cause
fund_in_causes book account amount =
    (eqb amount.0 0 ⇒ 7)
    ∷ (ltb cash_limit (all_cash book.cash book.vault.guarantee + amount.0) ⇒ 14)
    ∷ []

unfoldable pub funded_in : Book → Account → Fen → Book
funded_in book account amount = with_cash (with_account account (holds account book.cash + amount.0) book.cash) book

unfoldable pub fund_out_causes : Book → Account → Fen → List Cause
fund_out_causes book account amount =
    (eqb amount.0 0 ⇒ 7)
    ∷ (ltb (holds account book.cash) amount.0 ⇒ 13)
    ∷ []

unfoldable pub funded_out : Book → Account → Fen → Book
funded_out book account amount = with_cash (with_account account (holds account book.cash - amount.0) book.cash) book
