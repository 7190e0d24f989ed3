-- Bytes put into a text one after the other, and the digits of a number: for text.rt.
-- Assumes nothing.
use Rattle.std.specs.Prelude.{◌≡◌, ℕ, zero, suc, ◌+◌, ◌-◌, ◌/◌, ◌^◌, ◌<◌, ◌≤◌, Bool, true, false, cond, leb, List, [], ◌∷◌, ◌++◌, length, take, drop}
use mathlib.Core.Path.{refl, sym, ap, ◌∙◌}
use mathlib.Core.List.{append_assoc}
use native.Mathlib.Nat.{pow-le-pow_right}
use native.Mathlib.Numerals.{add-one}
use native.Mathlib.Omega.{arith}
use borrow.Author.Tests.{le-leb, lt-leb, leb-true, leb-false, eq-eqb, ne_eqb}
use lib.Dec.{lit<}
use lib.ListN.{length-append, length-drop}
use lib.Seq.{length-take-le, take_at, drop-append-add, drop-drop, paste, take-length}
use Rattle.io.specs.Digits.{last_digits, IsDigitCount}
use Rattle.journal.specs.Text.{Line, places_to, decimal, spaced, signed, line_text}
use Rattle.journal.specs.Buffer.{placed}

-- ---- bytes in a text

module _ (text a : List ℕ) (at : ℕ) (h : at + length a ≤ length text) where
  length_front : length (take at text ++ a) ≡ at + length a
  length_front = rw (length-append (take at text) a, length-take-le at text (omega arith))

  pub length-placed : length (placed text at a) ≡ length text
  unfolding placed
  length-placed = omega (arith, length-append (take at text ++ a) (drop (at + length a) text), length_front, length-drop (at + length a) text)

-- bytes put after those that were put before
pub placed-then : (text a b : List ℕ) (at : ℕ) → at + length a + length b ≤ length text → placed (placed text at a) (at + length a) b ≡ placed text at (a ++ b)
unfolding placed
placed-then text a b at h =
    let front : length (take at text ++ a) ≡ at + length a = length_front text a at (omega arith) in
    let rest : drop (at + length a + length b) (take at text ++ a ++ drop (at + length a) text) ≡ drop (at + length a + length b) text =
    rw front at (drop-append-add (take at text ++ a) (drop (at + length a) text) (length b)) ∙ drop-drop (length b) (at + length a) text in
    let long : at + length (a ++ b) ≡ at + length a + length b = omega (arith, length-append a b) in
    rw (take_at (take at text ++ a) (drop (at + length a) text) (at + length a) front, rest, long, append_assoc (take at text) a b)

-- a copy of all bytes is such a text
pub pasted : (text bytes : List ℕ) (at : ℕ) → paste text at bytes (length bytes) ≡ placed text at bytes
unfolding placed
pasted text bytes at = rw (take-length bytes)

-- what a function that puts bytes leaves, and two in a row
pub record Put (text : List ℕ) (at : ℕ) (bytes text' : List ℕ) (end : ℕ) : Type 0 where
  pub ends : end ≡ at + length bytes
  pub puts : text' ≡ placed text at bytes

pub nothing_put : (text : List ℕ) → Put text 0 [] text 0
unfolding placed
nothing_put text = record { ends = refl; puts = refl }

pub then : {text text' text'' a b : List ℕ} {at end end' : ℕ} → at + length a + length b ≤ length text → Put text at a text' end → Put text' end b text'' end' → Put text at (a ++ b) text'' end'
then {text} {text'} {text''} {a} {b} {at} {end} {end'} h p q = record {
  ends = omega (arith, p.ends, q.ends, length-append a b);
  puts = q.puts ∙ rw (p.puts, p.ends) (placed-then text a b at h);
}

pub room : {text text' a : List ℕ} {at end : ℕ} (b : List ℕ) → Put text at a text' end → at + length a + length b ≤ length text → end + length b ≤ length text'
room {text} {text'} {a} {at} {end} b p h = rw (p.ends, p.puts, length-placed text a at (omega arith)) h

-- what is left to put so that the whole stands in the text
pub record Due (text : List ℕ) (at : ℕ) (whole text' : List ℕ) (at' : ℕ) (rest : List ℕ) : Type 0 where
  pub long : at' + length rest ≤ length text'
  pub ends : at' + length rest ≡ at + length whole
  pub puts : placed text' at' rest ≡ placed text at whole

pub all-due : {text whole : List ℕ} {at : ℕ} → at + length whole ≤ length text → Due text at whole text at whole
all-due h = record { long = h; ends = refl; puts = refl }

module _ {text whole text' : List ℕ} {at at' : ℕ} where
  -- the first part is put
  pub first-put : (a rest : List ℕ) {text'' : List ℕ} {at'' : ℕ} → Due text at whole text' at' (a ++ rest) → (at'' ≡ at' + length a) × (text'' ≡ placed text' at' a) → Due text at whole text'' at'' rest
  first-put a rest d s =
      let both = length-append a rest in
      let room : at' + length a + length rest ≤ length text' = omega (arith, d.long, both) in
      record {
        long = rw (s.0, s.1, length-placed text' a at' (omega arith)) room;
        ends = omega (arith, s.0, d.ends, both);
        puts = rw (s.0, s.1) (placed-then text' a rest at' room ∙ d.puts);
      }

  pub rest-put : {rest text'' : List ℕ} {at'' : ℕ} → Due text at whole text' at' rest → (at'' ≡ at' + length rest) × (text'' ≡ placed text' at' rest) → (at'' ≡ at + length whole) × (text'' ≡ placed text at whole)
  rest-put d s = (s.0 ∙ d.ends, s.1 ∙ d.puts)

-- ---- a number's digits

pub length_digits : (base count number : ℕ) → length (last_digits base count number) ≡ count
length_digits base zero number = refl
length_digits base (suc count) number =
    length-append (last_digits base count (number / base)) _ ∙ ap (λ n. n + 1) (length_digits base count (number / base)) ∙ add-one count

fewest-is : (most number count : ℕ) → 1 ≤ count → number < 10 ^ count → (1 < count → 10 ^ (count - 1) ≤ number) → count ≤ suc most → count ≡ places_to most number
unfolding places_to
fewest-is zero number count low below above high = omega arith
fewest-is (suc most) number count low below above high = go (leb count (suc most)) refl (fewest-is most number count low below above)
  where
    go : (b : Bool) → leb count (suc most) ≡ b → (count ≤ suc most → count ≡ places_to most number) → count ≡ cond (leb (10 ^ suc most) number) (suc (suc most)) (places_to most number)
    go true e f =
        let fits : count ≤ suc most = leb-true count (suc most) e in
        let grows : 10 ^ count ≤ 10 ^ suc most = pow-le-pow_right (lit< tt) fits in
        rw (lt-leb (10 ^ suc most) number (omega (arith, grows))) (f fits)
    go false e f =
        let over : suc most < count = leb-false count (suc most) e in
        let less : count - 1 ≡ suc most = omega arith in
        let reaches : 10 ^ suc most ≤ number = rw less at (above (omega arith)) in
        rw (le-leb (10 ^ suc most) number reaches) (omega arith)

-- a number of 64 bits has at most 20 digits
digits-high : (number count : ℕ) → IsDigitCount 10 1 number count → number < 2 ^ 64 → count ≤ 20
digits-high number count f h = go (leb count 20) refl
  where
    go : (b : Bool) → leb count 20 ≡ b → count ≤ 20
    go true e = leb-true count 20 e
    go false e =
        let over : 20 < count = leb-false count 20 e in
        let later : 20 ≤ count - 1 = omega arith in
        let grows : 10 ^ 20 ≤ 10 ^ (count - 1) = pow-le-pow_right (lit< tt) later in
        let reaches : 10 ^ (count - 1) ≤ number = f.2 (omega arith) in
        absurd (omega (arith, grows, reaches, h))

-- what the library spells is the number
module _ (number count : ℕ) (f : IsDigitCount 10 1 number count) (h : number < 2 ^ 64) where
  counted : count ≡ places_to 19 number
  counted = fewest-is 19 number count f.0 f.1 f.2 (digits-high number count f h)

  pub spelled-length : (count ≡ length (decimal number)) × (count ≤ 20)
  unfolding decimal
  spelled-length = (counted ∙ sym (length_digits 10 (places_to 19 number) number), digits-high number count f h)

  pub spelled : last_digits 10 count number ≡ decimal number
  unfolding decimal
  spelled = ap (λ n. last_digits 10 n number) counted

places-high : (most number : ℕ) → places_to most number ≤ suc most
unfolding places_to
places-high zero number = omega arith
places-high (suc most) number = go (leb (10 ^ suc most) number) (places-high most number)
  where
    go : (b : Bool) → places_to most number ≤ suc most → cond b (suc (suc most)) (places_to most number) ≤ suc (suc most)
    go true h = omega arith
    go false h = omega arith

pub length-decimal : (number : ℕ) → length (decimal number) ≤ 20
unfolding decimal
length-decimal number = omega (arith, length_digits 10 (places_to 19 number) number, places-high 19 number)

-- ---- a headroom, and a line

pub signed_plain : (negative size : ℕ) → negative ≡ 0 → signed negative size ≡ spaced size
unfolding signed
signed_plain negative size e = rw (eq-eqb negative 0 e)

pub signed_minus : (negative size : ℕ) → (negative ≡ 0 → ⊥) → signed negative size ≡ 32 ∷ 45 ∷ decimal size
unfolding signed
signed_minus negative size e = rw (ne_eqb negative 0 e)

pub length_spaced : (number : ℕ) → length (spaced number) ≡ 1 + length (decimal number)
unfolding spaced
length_spaced number = omega arith

pub length_line : (place : ℕ) (line : Line)
    → length (line_text place line) ≡ length (decimal place) + length (spaced line.answer) + length (signed line.negative line.size.0) + length (spaced line.outstanding.0) + length (spaced line.own.0) + length (spaced line.client.0) + length (spaced line.guarantee.0) + 1
unfolding line_text
length_line place line = simp length-append

-- a line's parts, each put after the one before
pub line-due : (place : ℕ) (line : Line) {text : List ℕ} {at : ℕ} → at + length (line_text place line) ≤ length text
    → Due text at (line_text place line) text at
    (decimal place
    ++ (spaced line.answer
    ++ (signed line.negative line.size.0 ++ (spaced line.outstanding.0 ++ (spaced line.own.0 ++ (spaced line.client.0 ++ (spaced line.guarantee.0 ++ 10 ∷ [])))))))
unfolding line_text
line-due place line h = simp append_assoc (all-due (simp append_assoc at h))
