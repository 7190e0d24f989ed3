-- The securities in their row, four numbers each: which security stands where, what storing one changes, and whether all are fit.
-- For the functions over the row, and those above them. Assumes nothing.
use Rattle.std.specs.Prelude.{◌≡◌, ℕ, ◌+◌, ◌-◌, ◌*◌, ◌<◌, ◌≤◌, ◌⊎◌, List, [], ◌∷◌, length, get_or, set, replicate, take}
use mathlib.Core.Path.{sym, ap, ◌∙◌}
use mathlib.Core.Logic.{inl, inr}
use native.Mathlib.Nat.{add-zero}
use native.Mathlib.Omega.{arith}
use native.Mathlib.Decide.{dec_lt, ℕ_discrete}
use lib.ListN.{length-set, length-take, length-replicate, get_or-append, get_or-replicate}
use borrow.Author.Rules.{rules}
use borrow.Rule.Slice.PartMut.{put_mid}
use Rattle.std.proofs.lemmas.List.{places, get_or-append_right}
use lib.Seq.{sets, get_or-set_same, get_or-set_other, ext_get_or}
use Rattle.rules.specs.Book.{no_security, no_postings}
use Rattle.rules.specs.Vault.{security_at}
use Rattle.rules.specs.Fit.{security_fit, securities_fit}
use Rattle.rules.specs.Folds.{all_below}
use Rattle.ledger.specs.Types.{Security, Guarantee}
use Rattle.ledger.specs.Flat.{security_in, up_to, securities_of, vault_of, postings_from, postings_of}
use Rattle.ledger.proofs.SumLaws.{all_same}
use Rattle.ledger.proofs.RowLaws.{row-put}
use Rattle.ledger.proofs.UpToLaws.{length-up-to, up-to-below, same-up-to}
use Rattle.ledger.proofs.PostingLaws.{postings-kept, zeros-post-nothing}
use Rattle.ledger.proofs.StoreLaws.{get_or-sets-inside, get_or-sets-outside}

-- ---- which security stands where

pub length-securities : (held : List ℕ) (n : ℕ) → length (up_to (security_in held) n) ≡ n
length-securities held n = length-up-to (security_in held) n

pub security-below : (held : List ℕ) (n i : ℕ) → i < n → get_or (up_to (security_in held) n) i no_security ≡ security_in held i
security-below held n i h = up-to-below (security_in held) no_security n i h

-- as the definitions of the vault read it
pub security-at-row : (held : List ℕ) (guarantee : Guarantee) (kind : ℕ) → kind < 32 → security_at (vault_of guarantee (securities_of held)) kind ≡ security_in held kind
security-at-row held guarantee kind h = security-below held 32 kind h

-- rows with the same securities in each place are the same
same-securities : (held : List ℕ) (securities : List Security) → length securities ≡ 32 → ((i : ℕ) → i < 32 → security_in held i ≡ get_or securities i no_security) → securities_of held ≡ securities
same-securities held securities e h =
    ext_get_or no_security (securities_of held) securities (length-securities held 32 ∙ sym e)
    (λ i l.
    let k : i < 32 = omega (arith, length-securities held 32, l) in
    security-below held 32 i k ∙ h i k)

-- ---- one stored

same_numbers : (s t : List ℕ) (i j : ℕ) → ((k : ℕ) → k < 4 → get_or s (i * 4 + k) 0 ≡ get_or t (j * 4 + k) 0) → security_in s i ≡ security_in t j
unfolding security_in
same_numbers s t i j h =
    let z : get_or s (i * 4) 0 ≡ get_or t (j * 4) 0 = simp add-zero at (h 0 (omega arith)) in
    rw (z, h 1 (omega arith), h 2 (omega arith), h 3 (omega arith))

abbrev numbers : Security → List ℕ
numbers security = security.effective ∷ security.arriving ∷ security.frozen ∷ security.rate ∷ []

security-here : (held : List ℕ) (kind : ℕ) (security : Security) → kind * 4 + 3 < length held → security_in (sets held (kind * 4) (numbers security)) kind ≡ security
unfolding security_in
security-here held kind security h =
    let number : (k : ℕ) → k < 4 → get_or (sets held (kind * 4) (numbers security)) (kind * 4 + k) 0 ≡ get_or (numbers security) k 0 = λ k l. get_or-sets-inside (numbers security) held (kind * 4) k (omega arith) l in
    rw (simp add-zero at (number 0 (omega arith)), number 1 (omega arith), number 2 (omega arith), number 3 (omega arith))

apart : (kind i k : ℕ) → (i ≡ kind → ⊥) → k < 4 → (i * 4 + k < kind * 4) ⊎ (kind * 4 + 4 ≤ i * 4 + k)
apart kind i k q l = by (dec_lt i kind)
  where
    by : Dec (i < kind) → (i * 4 + k < kind * 4) ⊎ (kind * 4 + 4 ≤ i * 4 + k)
    by (yes b) = inl (omega arith)
    by (no b) = inr (omega arith)

numbers-put : (held : List ℕ) (kind : ℕ) (security : Security) → kind < 32 → length held ≡ 160 → securities_of (sets held (kind * 4) (numbers security)) ≡ set (securities_of held) kind security
numbers-put held kind security h e =
    same-securities (sets held (kind * 4) (numbers security)) (set (securities_of held) kind security) (length-set (securities_of held) kind security ∙ length-securities held 32) (λ i l. by i l (ℕ_discrete i kind))
  where
    by : (i : ℕ) → i < 32 → Dec (i ≡ kind) → security_in (sets held (kind * 4) (numbers security)) i ≡ get_or (set (securities_of held) kind security) i no_security
    by i l (yes q) = rw q (security-here held kind security (omega arith) ∙ sym (get_or-set_same (securities_of held) kind security no_security (omega (arith, length-securities held 32))))
    by i l (no q) =
        same_numbers (sets held (kind * 4) (numbers security)) held i i (λ k m. get_or-sets-outside (numbers security) held (kind * 4) (i * 4 + k) (apart kind i k q m))
        ∙ sym (get_or-set_other (securities_of held) kind i security no_security q ∙ security-below held 32 i l)

pub security-put : (held : List ℕ) (kind : ℕ) (security : Security) → kind < 32 → length held ≡ 160
    → (securities_of (put_mid (kind * 4) (kind * 4 + 4 - kind * 4) held (numbers security)) ≡ set (securities_of held) kind security)
    × (postings_of (put_mid (kind * 4) (kind * 4 + 4 - kind * 4) held (numbers security)) ≡ postings_of held)
security-put held kind security h e = rw (row-put held (kind * 4) (numbers security) (omega arith)) (
  numbers-put held kind security h e,
  postings-kept _ held (λ k l. get_or-sets-outside (numbers security) held (kind * 4) k (inr (omega arith))),
)

-- what is stored behind them leaves them
pub securities-kept : (s t : List ℕ) → ((k : ℕ) → k < postings_from → get_or s k 0 ≡ get_or t k 0) → securities_of s ≡ securities_of t
securities-kept s t h = same-up-to (security_in s) (security_in t) 32 (λ i l. same_numbers s t i i (λ k m. h (i * 4 + k) (omega arith)))

-- zeros behind them post nothing, and leave them
pub forgotten : (held zeros : List ℕ) → length held ≡ 160 → zeros ≡ replicate 32 0 → (postings_of (put_mid 128 32 held zeros) ≡ no_postings) × (securities_of (put_mid 128 32 held zeros) ≡ securities_of held)
forgotten held zeros long e =
    let front : length (take 128 held) ≡ 128 = omega (arith, length-take {A = ℕ}) in
    let zero : (k : ℕ) → postings_from ≤ k → k < 160 → get_or (put_mid 128 32 held zeros) k 0 ≡ 0 =
    λ k h g.
    get_or-append_right (take 128 held) _ 128 k 0 front h
    ∙ get_or-append zeros _ 0 (k - 128) (omega (arith, ap length e, length-replicate {A = ℕ} 32 0))
    ∙ ap (λ (l : List ℕ). get_or l (k - 128) 0) e
    ∙ get_or-replicate {A = ℕ} 32 (k - 128) 0 0 (omega arith) in
    (zeros-post-nothing _ zero, securities-kept _ _ (λ k h. search (rules, places)))

-- ---- whether all are fit

pub fit-each : (held : List ℕ) (guarantee : Guarantee) → all_below 32 (λ kind. security_fit (security_in held kind)) ≡ securities_fit (vault_of guarantee (securities_of held))
unfolding securities_fit
fit-each held guarantee = all_same 32 _ _ (λ kind h. sym (ap security_fit (security-at-row held guarantee kind h)))
