-- "4 Size: sets S." It fits any phase and acts immediately.
-- Assumes nothing.
use Rattle.std.specs.Prelude.{List, [], ◌∷◌, ltb}
use Rattle.money.specs.declared.units.Sheets.{Sheets}
use Rattle.money.specs.Causes.{Cause, ◌⇒◌}
use Rattle.rules.specs.Limits.{size_limit}
use Rattle.rules.specs.Book.{Book, with_size}
use Rattle.rules.specs.Trades.{Trade}
use Rattle.rules.specs.Vault.{outstanding_of}

unfoldable pub size_causes : Book → List Trade → Sheets → List Cause
size_causes book table size =
    (ltb size_limit size.0 ⇒ 14)
    ∷ (ltb size.0 (outstanding_of book table) ⇒ 15)
    ∷ []

unfoldable pub sized : Book → Sheets → Book
sized book size = with_size size book
