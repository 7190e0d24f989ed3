-- A line of the listing as bytes. (01, The journal)
-- Assumes nothing.
use Rattle.std.specs.Prelude.{ℕ, zero, suc, ◌^◌, cond, List, [], ◌∷◌, ◌++◌, ◌==◌, nat_le, slice_index}
use Rattle.io.specs.Digits.{last_digits}
use Rattle.money.specs.Units.{fen, sheets}
pub use Rattle.journal.specs.declared.text.Line.{Line}

-- how many decimal digits a number has, counted to one more than `most`
unfoldable pub places_to : (most : ℕ) → ℕ → ℕ
places_to zero number = 1
places_to (suc most) number = cond (nat_le (10 ^ suc most) number) (suc (suc most)) (places_to most number)

-- a number of 64 bits has at most 20 digits
unfoldable pub decimal : ℕ → List ℕ
decimal number = last_digits 10 (places_to 19 number) number

-- "one space between": a number after a space
unfoldable pub spaced : ℕ → List ℕ
spaced number = 32 ∷ decimal number

-- "a minus sign before a negative headroom"
unfoldable pub signed : (negative size : ℕ) → List ℕ
signed negative size = cond (negative == 0) (spaced size) (32 ∷ 45 ∷ decimal size)

-- a line's seven numbers as the book tells them, headroom as its sign and its size
unfoldable pub line_from : List ℕ → Line
line_from numbers = record {
  answer = slice_index numbers 0;
  negative = slice_index numbers 1;
  size = sheets (slice_index numbers 2);
  outstanding = sheets (slice_index numbers 3);
  own = fen (slice_index numbers 4);
  client = fen (slice_index numbers 5);
  guarantee = fen (slice_index numbers 6);
}

-- "its place from 1, answer, headroom, O, own, client, guarantee cash (effective and arriving)", and a line end
unfoldable pub line_text : (place : ℕ) → Line → List ℕ
line_text place line =
    decimal place
    ++ spaced line.answer
    ++ signed line.negative line.size.0
    ++ spaced line.outstanding.0
    ++ spaced line.own.0
    ++ spaced line.client.0
    ++ spaced line.guarantee.0
    ++ 10 ∷ []
