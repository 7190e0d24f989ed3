-- What is listed of an input of which only so much is read as there is room for. (01, The journal, "Program `daybook`")
-- Assumes nothing.
use Rattle.std.specs.Prelude.{◌≡◌, ℕ, ◌≤◌, List, length, take, Result, Ok, Err}
use Rattle.journal.specs.Listing.{listing_text}

-- the first bytes of a text are the listing of the input, whatever input it is of which that much was read
abbrev pub Lists : (room : ℕ) (read text : List ℕ) (count : ℕ) → Type 0
Lists room read text count =
    (input : List ℕ) → take room input ≡ read → (count ≡ length (listing_text input)) × (take count text ≡ listing_text input)

-- how much was read lies within the room
abbrev pub Within : {E : Type 0} → Result ℕ E → (room : ℕ) → Type 0
Within (Ok size) room = size ≤ room
Within (Err failed) room = Unit {0}
