-- A word's binary digits: the trailing zeros of a word masked below a place are the place of the first digit set from there on.
-- Assumes nothing.
use mathlib.Core.Path.{◌≡◌, refl, sym, ap, ◌∙◌, subst}
use Prim.Native.Nat.{ℕ, zero, suc, ◌+◌, ◌-◌, ◌*◌, ◌/◌, ◌%◌, ◌^◌, ◌≤◌, ◌<◌, suc-le-suc}
use native.Mathlib.Nat.{not-suc-le-zero, le_of_suc-le-suc, zero-lt-suc, div-one, pow-suc, pow-succ', div-div-eq-div-mul, div-lt_iff_lt-mul, div-mul-le_self, lt_of_le_of_lt, mul_assoc, zero-div, lt_of_not-le}
use native.Mathlib.Omega.{arith}
use lib.Count.{count_trailing_zeros, under}
use lib.Pow.{pow-add, pow_pos, pow-lt, shl-shr, shr-shr, shr_mod}
use lib.Bits.{bit_and, shifted_even, and_high}

-- the digit of n at place j, 0 lowest
abbrev pub digit : ℕ → ℕ → ℕ
digit n j = n / 2 ^ j % 2

digit-suc : (n j : ℕ) → digit n (suc j) ≡ digit (n / 2) j
digit-suc n j = ap (λ (x : ℕ). x % 2) (ap (λ (x : ℕ). n / x) (pow-succ' 2 j) ∙ sym (div-div-eq-div-mul n 2 (2 ^ j)))

digit-zero : (n : ℕ) → digit n 0 ≡ n % 2
digit-zero n = ap (λ (x : ℕ). x % 2) (div-one n)

-- ---- trailing zeros

zeros-below : (k n j : ℕ) → j < count_trailing_zeros k n → digit n j ≡ 0
unfolding count_trailing_zeros
zeros-below zero n j h = absurd (not-suc-le-zero h)
zeros-below (suc k) n j h = go (n % 2) refl (zeros-below k (n / 2)) j h
  where
    go : (r : ℕ) → n % 2 ≡ r → ((i : ℕ) → i < count_trailing_zeros k (n / 2) → digit (n / 2) i ≡ 0) → (i : ℕ) → i < under r (count_trailing_zeros k (n / 2)) → digit n i ≡ 0
    go zero e f zero l = digit-zero n ∙ e
    go zero e f (suc i) l = digit-suc n i ∙ f i (le_of_suc-le-suc l)
    go (suc r) e f i l = absurd (not-suc-le-zero l)

one_at : (k n : ℕ) → count_trailing_zeros k n < k → digit n (count_trailing_zeros k n) ≡ 1
unfolding count_trailing_zeros
one_at zero n h = absurd (not-suc-le-zero h)
one_at (suc k) n h = go (n % 2) refl (one_at k (n / 2)) h
  where
    odd : (r : ℕ) → n % 2 ≡ suc r → n % 2 ≡ 1
    odd r e = omega arith

    go : (r : ℕ) → n % 2 ≡ r → (count_trailing_zeros k (n / 2) < k → digit (n / 2) (count_trailing_zeros k (n / 2)) ≡ 1) → under r (count_trailing_zeros k (n / 2)) < suc k → digit n (under r (count_trailing_zeros k (n / 2))) ≡ 1
    go zero e f l = digit-suc n (count_trailing_zeros k (n / 2)) ∙ f (le_of_suc-le-suc l)
    go (suc r) e f l = digit-zero n ∙ odd r e

-- a number that is not 0 has fewer zeros than digits
zeros-lt : (k n : ℕ) → 0 < n → n < 2 ^ k → count_trailing_zeros k n < k
unfolding count_trailing_zeros
zeros-lt zero n p h = absurd (none n p h)
  where
    none : (m : ℕ) → 0 < m → m < 1 → ⊥
    none m a b = omega arith
zeros-lt (suc k) n p h = go (n % 2) refl (zeros-lt k (n / 2))
  where
    half_pos : n % 2 ≡ 0 → 0 < n / 2
    half_pos e = omega arith

    half_lt : n / 2 < 2 ^ k
    half_lt = (div-lt_iff_lt-mul (zero-lt-suc 1)).1 (subst (λ (x : ℕ). n < x) (pow-suc 2 k) h)

    go : (r : ℕ) → n % 2 ≡ r → (0 < n / 2 → n / 2 < 2 ^ k → count_trailing_zeros k (n / 2) < k) → under r (count_trailing_zeros k (n / 2)) < suc k
    go zero e f = suc-le-suc (f (half_pos e) half_lt)
    go (suc r) e f = zero-lt-suc k

-- ---- a word cleared below a place

abbrev pub cleared : ℕ → ℕ → ℕ
cleared n s = n / 2 ^ s * 2 ^ s

cleared-from : (n s j : ℕ) → s ≤ j → digit (cleared n s) j ≡ digit n j
cleared-from n s j h = subst (λ (x : ℕ). digit (cleared n s) x ≡ digit n x) (back s j h) at
  where
    back : (a b : ℕ) → a ≤ b → a + (b - a) ≡ b
    back a b l = omega arith

    at : digit (cleared n s) (s + (j - s)) ≡ digit n (s + (j - s))
    at = ap (λ (x : ℕ). x % 2) (sym (shr-shr (cleared n s) s (j - s)) ∙ ap (λ (x : ℕ). x / 2 ^ (j - s)) (shl-shr (n / 2 ^ s) s) ∙ shr-shr n s (j - s))

shifted-low : (a i j : ℕ) → digit (a * 2 ^ (suc i + j)) j ≡ 0
shifted-low a i j =
    ap (λ (x : ℕ). x % 2)
    (ap (λ (x : ℕ). x / 2 ^ j) (ap (λ (x : ℕ). a * x) (pow-add 2 (suc i) j) ∙ sym (mul_assoc a (2 ^ suc i) (2 ^ j)))
    ∙ shl-shr (a * 2 ^ suc i) j)
    ∙ shifted_even a i

cleared-below : (n s j : ℕ) → j < s → digit (cleared n s) j ≡ 0
cleared-below n s j h = subst (λ (x : ℕ). digit (n / 2 ^ s * 2 ^ x) j ≡ 0) (back s j h) (shifted-low (n / 2 ^ s) (s - suc j) j)
  where
    back : (a b : ℕ) → b < a → suc (a - suc b) + b ≡ a
    back a b l = omega arith

-- the machine's way to clear a word below s: n & (0xffff_ffff << s)
pub masked-clears : (n s : ℕ) → n < 2 ^ 32 → s < 32 → bit_and n (4294967295 * 2 ^ s % 2 ^ 32) ≡ cleared n s
masked-clears n s h k =
    let whole : 32 - s + s ≡ 32 = omega arith in
    ap (bit_and n) (mask (2 ^ s) (pow_pos s) (pow-lt k) ∙ ap (λ (x : ℕ). 2 ^ x - 2 ^ s) (sym whole))
    ∙ and_high n (32 - s) s
    ∙ ap (λ (x : ℕ). x * 2 ^ s) (shr_mod (32 - s) s (rw whole h))
  where
    mask : (p : ℕ) → 0 < p → p < 4294967296 → 4294967295 * p % 4294967296 ≡ 4294967296 - p
    mask p a b = omega arith

-- ---- what the masked word m says of the word n's digits from s on

pub none-set : (n s m : ℕ) → m ≡ cleared n s → m ≡ 0 → (j : ℕ) → s ≤ j → digit n j ≡ 0
none-set n s m e z j l = sym (cleared-from n s j l) ∙ ap (λ (x : ℕ). digit x j) (sym e ∙ z) ∙ ap (λ (x : ℕ). x % 2) (zero-div (2 ^ j))

-- t is the place of the first that is set
pub record FirstSet (n s t : ℕ) : Type 0 where
  pub from : s ≤ t
  pub below : t < 32
  pub set : digit n t ≡ 1
  pub none_before : (j : ℕ) → s ≤ j → j < t → digit n j ≡ 0

pub first-set : (n s m : ℕ) → n < 2 ^ 32 → m ≡ cleared n s → (m ≡ 0 → ⊥) → FirstSet n s (count_trailing_zeros 32 m)
first-set n s m h e z =
    let t = count_trailing_zeros 32 m in
    let lt = zeros-lt 32 m (omega arith) (rw e (lt_of_le_of_lt (div-mul-le_self n (2 ^ s)) h)) in
    let one = one_at 32 m lt in
    let same : (j : ℕ) → s ≤ j → digit m j ≡ digit n j = λ j l. ap (λ (x : ℕ). digit x j) e ∙ cleared-from n s j l in
    let begun : s ≤ t =
    le_of_suc-le-suc (lt_of_not-le (λ (l : suc t ≤ s). apart (digit m t) (ap (λ (x : ℕ). digit x t) e ∙ cleared-below n s t l) one)) in
    record { from = begun; below = lt; set = sym (same t begun) ∙ one; none_before = λ j a b. sym (same j a) ∙ zeros-below 32 m j b }
  where
    apart : (x : ℕ) → x ≡ 0 → x ≡ 1 → ⊥
    apart x a b = omega arith
