-- The months: which numbers are one, where they start, and how the rule that a whole list of starts keeps is carried to each entry.
-- Assumes nothing.
use mathlib.Core.Path.{◌≡◌, refl, sym, ap, ◌∙◌}
use mathlib.Core.Bool.{Bool, true, false, cond, ◌&&◌}
use mathlib.Core.List.{List, [], ◌∷◌}
use mathlib.Core.Logic.{⊎_elim}
use Prim.Native.Nat.{ℕ, zero, suc, ◌+◌, ◌≤◌, ◌<◌}
use native.Mathlib.Nat.{add-zero, zero-add, add-suc, suc-add, le_of_suc-le-suc, not-suc-le-zero, eq-or-lt_of_le}
use native.Mathlib.Decide.{dec_le}
use native.Mathlib.Omega.{arith}
use borrow.Author.Tests.{eqb-true, leb-true}
use lib.Dec.{eqb, leb}
use lib.ListN.{length, get_or, get_or-eq_default}
use Rattle.money.specs.Limits.{month_count, last_day}
use Rattle.money.specs.Dates.{leap, february, month_lengths, month_length, length_after, start_after, keeps_rule}
use Rattle.money.proofs.TwoTests.{both}

-- ---- January to December have days, and nothing else has

abbrev none_is_0 : List ℕ → Bool
none_is_0 [] = true
none_is_0 (n ∷ ns) = leb 1 n && none_is_0 ns

at-least-1 : (ns : List ℕ) → none_is_0 ns ≡ true → (k : ℕ) → k < length ns → 1 ≤ get_or ns k 0
at-least-1 [] t k h = absurd (not-suc-le-zero h)
at-least-1 (n ∷ ns) t zero h = leb-true 1 n (both (leb 1 n) _ t).0
at-least-1 (n ∷ ns) t (suc k) h = at-least-1 ns (both (leb 1 n) _ t).1 k (le_of_suc-le-suc h)

pub has-days : (year month : ℕ) → 1 ≤ month → month ≤ 12 → 1 ≤ month_length year month
unfolding month_length february
has-days year zero h k = absurd (not-suc-le-zero h)
has-days year (suc month) h k = at-least-1 (month_lengths (february year)) (by-leap (leap year)) month (omega arith)
  where
    by-leap : (b : Bool) → none_is_0 (month_lengths (cond b 29 28)) ≡ true
    by-leap true = refl
    by-leap false = refl

pub no-month : (year month : ℕ) → 12 < month → month_length year month ≡ 0
unfolding month_length
no-month year month h = get_or-eq_default (0 ∷ month_lengths (february year)) 0 h

pub is-month : (year month : ℕ) → 1 ≤ month_length year month → (1 ≤ month) × (month ≤ 12)
unfolding month_length
is-month year zero h = absurd (not-suc-le-zero h)
is-month year (suc month) h = (omega arith, side (dec_le (suc month) 12))
  where
    side : Dec (suc month ≤ 12) → suc month ≤ 12
    side (yes l) = l
    side (no l) = absurd (omega (arith, no-month year (suc month) (omega arith)))

-- ---- the rule over a list of starts, and at each entry

pub next_start : (months : ℕ) → start_after (suc months) ≡ start_after months + length_after months
unfolding start_after
next_start months = refl

-- an entry is its month's start, and the others keep the rule from the next month on
module _ (entry : ℕ) (entries : List ℕ) (months start : ℕ) (t : keeps_rule months start (entry ∷ entries) ≡ true) (e : start ≡ start_after months) where
  its-start : entry ≡ start_after months
  unfolding keeps_rule
  its-start = eqb-true entry start (both (eqb entry start) _ t).0 ∙ e

  others_keep : keeps_rule (suc months) (entry + length_after months) entries ≡ true
  unfolding keeps_rule
  others_keep = (both (eqb entry start) _ t).1

  from-the-next : entry + length_after months ≡ start_after (suc months)
  from-the-next = ap (λ (n : ℕ). n + length_after months) its-start ∙ sym (next_start months)

carried : (entries : List ℕ) (months start : ℕ) → keeps_rule months start entries ≡ true → start ≡ start_after months → (k : ℕ) → k < length entries → get_or entries k 0 ≡ start_after (months + k)
carried [] months start t e k h = absurd (not-suc-le-zero h)
carried (entry ∷ entries) months start t e zero h =
    its-start entry entries months start t e ∙ ap start_after (sym (add-zero months))
carried (entry ∷ entries) months start t e (suc k) h =
    carried entries (suc months) _ (others_keep entry entries months start t e) (from-the-next entry entries months start t e) k (le_of_suc-le-suc h)
    ∙ ap start_after (suc-add months k ∙ sym (add-suc months k))

pub each_start : (entries : List ℕ) → keeps_rule 0 0 entries ≡ true → (k : ℕ) → k < length entries → get_or entries k 0 ≡ start_after k
unfolding start_after
each_start entries t k h = carried entries 0 0 t refl k h ∙ ap start_after (zero-add k)

to_the_end : (entries : List ℕ) (months start : ℕ) → keeps_rule months start entries ≡ true → start ≡ start_after months → start_after (months + length entries) ≡ last_day + 1
unfolding keeps_rule
to_the_end [] months start t e = ap start_after (add-zero months) ∙ sym e ∙ eqb-true start (last_day + 1) t
to_the_end (entry ∷ entries) months start t e =
    ap start_after (add-suc months (length entries) ∙ sym (suc-add months (length entries)))
    ∙ to_the_end entries (suc months) _ (others_keep entry entries months start t e) (from-the-next entry entries months start t e)

-- each next entry is the last plus that month's length, and after the last one comes day 36,525
pub next-entry : (entries : List ℕ) → keeps_rule 0 0 entries ≡ true → (k : ℕ) → suc k < length entries → get_or entries (suc k) 0 ≡ get_or entries k 0 + length_after k
next-entry entries t k h = omega (arith, each_start entries t k (omega arith), each_start entries t (suc k) h, next_start k)

pub last_entry : (entries : List ℕ) → keeps_rule 0 0 entries ≡ true → (k : ℕ) → suc k ≡ length entries → get_or entries k 0 + length_after k ≡ last_day + 1
unfolding start_after
last_entry entries t k h =
    let end : start_after (suc k) ≡ last_day + 1 = ap start_after (h ∙ sym (zero-add (length entries))) ∙ to_the_end entries 0 0 t refl in
    omega (arith, each_start entries t k (omega arith), next_start k)

-- ---- the starts rise, and the last month ends with the last day

pub rises : (m n : ℕ) → m ≤ n → start_after m ≤ start_after n
unfolding start_after
rises m zero h = let z : m ≡ 0 = omega arith in omega (arith, ap start_after z)
rises m (suc n) h =
    ⊎_elim (λ (q : m ≡ suc n). omega (arith, ap start_after q)) (λ (l : m < suc n). omega (arith, rises m n (le_of_suc-le-suc l))) (eq-or-lt_of_le h)

pub last_end : start_after month_count ≡ last_day + 1
unfolding start_after length_after month_length february leap
last_end = refl
