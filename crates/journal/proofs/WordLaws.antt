-- A number of four bytes, and a calendar's words, one more at a time: for section.rt, calendar.rt and their callers.
-- Assumes nothing.
use Rattle.std.specs.Prelude.{◌≡◌, ℕ, zero, suc, ◌+◌, ◌*◌, ◌<◌, ◌≤◌, List, ◌++◌, length, get_or, take, drop, set}
use mathlib.Core.Path.{refl, sym, ap, ◌∙◌}
use native.Mathlib.Numerals.{add-one}
use native.Mathlib.Omega.{arith}
use lib.ListN.{length-append}
use lib.Seq.{drop-cons, drop-drop, set_at, take_at, append_snoc}
use Rattle.rules.specs.Entry.{number_at}
use Rattle.rules.proofs.Bytes.{no_bytes, first_four}
use Rattle.journal.specs.Sections.{words_of}

pub four_bytes : (bytes : List ℕ) (at : ℕ) → at + 4 ≤ length bytes
    → number_at at 4 bytes ≡ get_or bytes at 0 + 256 * get_or bytes (at + 1) 0 + 65536 * get_or bytes (at + 2) 0 + 16777216 * get_or bytes (at + 3) 0
four_bytes bytes at inside = omega (arith, first_four bytes at 0 inside, no_bytes bytes (at + 4))

pub length-words : (count : ℕ) (bytes : List ℕ) → length (words_of count bytes) ≡ count
unfolding words_of
length-words zero bytes = refl
length-words (suc count) bytes = length-append (words_of count bytes) _ ∙ ap (λ n. n + 1) (length-words count bytes) ∙ add-one count

pub no_words : (bytes words : List ℕ) → words ≡ words_of 0 bytes ++ drop 0 words
unfolding words_of
no_words bytes words = refl

-- one word more
pub next_word : (journal words : List ℕ) (at k : ℕ) (word : ℕ) → word ≡ number_at (at + k * 4) 4 journal → k < length words
    → set (words_of k (drop at journal) ++ drop k words) k word ≡ words_of (k + 1) (drop at journal) ++ drop (k + 1) words
unfolding words_of
next_word journal words at k word e h =
    rw (add-one k, drop-cons words k 0 h, set_at (words_of k (drop at journal)) _ (drop (suc k) words) word k (length-words k (drop at journal)), e, drop-drop (k * 4) at journal)
    (sym (append_snoc (words_of k (drop at journal)) _ (drop (suc k) words)))

-- the words in front of those that were lent
pub words-in-front : (count : ℕ) (bytes rest : List ℕ) → take count (words_of count bytes ++ rest) ≡ words_of count bytes
words-in-front count bytes rest = take_at (words_of count bytes) rest count (length-words count bytes)
