-- A journal as numbers: the bytes that they stand for, and the lines that its events end with.
-- Assumes nothing.
use Rattle.std.specs.Prelude.{ℕ, zero, suc, ◌+◌, ◌-◌, ◌*◌, ◌/◌, ◌%◌, ◌^◌, Bool, List, [], ◌∷◌, ◌++◌, length, nat_eq, slice_index}
use Rattle.money.specs.Days.{Calendar}
use Rattle.rules.specs.Folds.{all_below}
use Rattle.rules.specs.Entry.{little_endian, unless, entry_of, decoded}
use Rattle.rules.specs.Listing.{entries_of, line_of, lines_of, listing_of}
use Rattle.rules.proofs.Opened.{every_rule}

-- a number's byte at a place, the least first
abbrev pub digit_of : (number place : ℕ) → ℕ
digit_of number place = number / 2 ^ (place * 8) % 256

-- some of a number's bytes, from a place on
unfoldable pub digits_from : (number place count : ℕ) → List ℕ
digits_from number place zero = []
digits_from number place (suc count) = digit_of number place ∷ digits_from number (suc place) count

abbrev pub digits : ℕ → List ℕ
digits number = digits_from number 0 8

-- numbers as bytes, eight a number: five numbers are an event
unfoldable pub bytes_of : List ℕ → List ℕ
bytes_of [] = []
bytes_of (number ∷ numbers) = digits number ++ bytes_of numbers

-- the numbers from a place on are those of the lines
unfoldable pub same_numbers : List ℕ → ℕ → List ℕ → Bool
same_numbers numbers at lines = all_below (length lines) (λ k. nat_eq (slice_index numbers (at + k)) (slice_index lines k))

-- the listing of a journal in three parts ends with these lines; who opens this opens every rule, so that it computes
unfoldable pub ends_with : Calendar → (start earlier events lines : List ℕ) → Bool
unfolding every_rule decoded entry_of unless little_endian entries_of line_of lines_of listing_of digits_from bytes_of same_numbers
ends_with calendar start earlier events lines =
    same_numbers
    (listing_of calendar (bytes_of ((start ++ earlier) ++ events)))
    ((length start + length earlier + length events) / 5 * 7 - length lines)
    lines
