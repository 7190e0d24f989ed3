-- "Event 13, Post, in Trading, gives product 0 to 15 (byte 1) its term in days (amount, 1 to 365) and both prices for that day; a later
-- Post replaces it." (02, ask 4; art. 30)
-- Assumes nothing.
use Rattle.std.specs.Prelude.{ℕ, Bool, not, ◌||◌, List, [], ◌∷◌, ltb, leb, eqb, set}
use Rattle.money.specs.Causes.{Cause, ◌⇒◌}
use Rattle.rules.specs.Limits.{product_limit, ahead_limit}
use Rattle.rules.specs.Book.{Posting, Book, is_trading, is_terminated, with_postings}
use Rattle.rules.specs.Initial.{bad_prices}

-- "A bad term is 9": "its term in days (amount, 1 to 365)"
abbrev pub bad_term : (term : ℕ) → Bool
bad_term term = eqb term 0 || ltb ahead_limit term

-- "Turned away: 20, for a product above 15 in Post …, placed after 3"; "Post on a terminated book is 5"; "A bad term is 9 and a bad price 8."
unfoldable pub post_causes : Book → (product : ℕ) → Posting → List Cause
post_causes book product posting =
    (leb product_limit product ⇒ 20)
    ∷ (not (is_trading book.standing.phase) ⇒ 4)
    ∷ (is_terminated book.standing.status ⇒ 5)
    ∷ (bad_prices posting.price posting.fallback ⇒ 8)
    ∷ (bad_term posting.term ⇒ 9)
    ∷ []

-- "a later Post replaces it"
unfoldable pub posted : Book → (product : ℕ) → Posting → Book
posted book product posting = with_postings (set book.postings product posting) book
