-- What stands in a lent text: for private contracts. It states no rule.
-- Assumes nothing.
use Rattle.std.specs.Prelude.{ℕ, ◌+◌, List, ◌++◌, length, take, drop}

-- a text with bytes from a place on, the rest as it was
unfoldable pub placed : (text : List ℕ) (at : ℕ) → List ℕ → List ℕ
placed text at bytes = take at text ++ bytes ++ drop (at + length bytes) text
