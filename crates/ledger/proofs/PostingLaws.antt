-- What is posted, in the row behind the securities, two numbers a product: which posting stands where, what storing one changes, and
-- whether all are fit. For the functions of postings.rt, and those above them. Assumes nothing.
use Rattle.std.specs.Prelude.{◌≡◌, ℕ, ◌+◌, ◌*◌, ◌<◌, ◌≤◌, List, length, get_or, set}
use mathlib.Core.Path.{sym, ap, ◌∙◌}
use native.Mathlib.Numerals.{add-one}
use native.Mathlib.Omega.{arith}
use native.Mathlib.Decide.{ℕ_discrete}
use lib.ListN.{length-set, length-replicate, get_or-replicate}
use lib.Seq.{get_or-set_same, get_or-set_other, ext_get_or}
use Rattle.rules.specs.Limits.{product_limit}
use Rattle.rules.specs.Book.{no_posting, no_postings, posting_at as posted_for}
use Rattle.rules.specs.Fit.{posting_fit, postings_fit}
use Rattle.rules.specs.Folds.{all_below}
use Rattle.ledger.specs.Types.{Posting}
use Rattle.ledger.specs.Flat.{posting_width, postings_from, posting_in, postings_of}
use Rattle.ledger.proofs.SumLaws.{all_same}
use Rattle.ledger.proofs.UpToLaws.{length-up-to, up-to-below, same-up-to}
use Rattle.ledger.proofs.StoreLaws.{pair, lower-pair, upper-pair}

-- where a product's numbers begin
abbrev pub posting_at : (number : ℕ) → ℕ
posting_at number = postings_from + number * posting_width

pub length-postings : (held : List ℕ) → length (postings_of held) ≡ product_limit
length-postings held = length-up-to (posting_in held) product_limit

pub posting-below : (held : List ℕ) (number : ℕ) → number < product_limit → get_or (postings_of held) number no_posting ≡ posting_in held number
posting-below held number h = up-to-below (posting_in held) no_posting product_limit number h

-- what is posted for a record's product, the number plus 1
pub posting-for : (held : List ℕ) (product number : ℕ) → product ≡ number + 1 → product ≤ product_limit → posted_for (postings_of held) product ≡ posting_in held number
posting-for held product number e h = rw (e, add-one number) (posting-below held number (omega arith))

-- the same two numbers are the same posting
same-posting : (s t : List ℕ) (number : ℕ) → get_or s (posting_at number) 0 ≡ get_or t (posting_at number) 0 → get_or s (posting_at number + 1) 0 ≡ get_or t (posting_at number + 1) 0
    → posting_in s number ≡ posting_in t number
unfolding posting_in
same-posting s t number term prices = rw (term, prices)

-- what is stored before them leaves them
pub postings-kept : (s t : List ℕ) → ((k : ℕ) → postings_from ≤ k → get_or s k 0 ≡ get_or t k 0) → postings_of s ≡ postings_of t
postings-kept s t h =
    same-up-to (posting_in s) (posting_in t) product_limit (λ i l. same-posting s t i (h (posting_at i) (omega arith)) (h (posting_at i + 1) (omega arith)))

-- ---- one stored

-- the two stores as the code makes them
abbrev pub stores_posting : List ℕ → (number : ℕ) → Posting → List ℕ
stores_posting held number posting =
    set (set held (posting_at number) posting.term) (posting_at number + 1) (pair posting.price.0 posting.fallback.0)

-- the prices of a posting have 32 bits
pub record NarrowPrices (posting : Posting) : Type 0 where
  pub price : posting.price.0 < 4294967296
  pub fallback : posting.fallback.0 < 4294967296

module _ (held : List ℕ) (number : ℕ) (posting : Posting) where
  elsewhere : (k : ℕ) → (k ≡ posting_at number → ⊥) → (k ≡ posting_at number + 1 → ⊥) → get_or (stores_posting held number posting) k 0 ≡ get_or held k 0
  elsewhere k a b =
      get_or-set_other (set held (posting_at number) posting.term) (posting_at number + 1) k (pair posting.price.0 posting.fallback.0) 0 b
      ∙ get_or-set_other held (posting_at number) k posting.term 0 a

  posting-here : posting_at number + 1 < length held → NarrowPrices posting → posting_in (stores_posting held number posting) number ≡ posting
  unfolding posting_in
  posting-here h narrow =
      let first = set held (posting_at number) posting.term in
      let term : get_or (stores_posting held number posting) (posting_at number) 0 ≡ posting.term =
      get_or-set_other first (posting_at number + 1) (posting_at number) (pair posting.price.0 posting.fallback.0) 0 (λ e. omega arith) ∙ get_or-set_same held (posting_at number) posting.term 0 (omega arith)
      in
      let prices : get_or (stores_posting held number posting) (posting_at number + 1) 0 ≡ pair posting.price.0 posting.fallback.0 =
      get_or-set_same first (posting_at number + 1) (pair posting.price.0 posting.fallback.0) 0 (omega (arith, length-set held (posting_at number) posting.term))
      in
      rw (term, prices, lower-pair _ posting.fallback.0 narrow.price, upper-pair _ _ narrow.price narrow.fallback)

  pub posting-put : number < product_limit → length held ≡ 160 → NarrowPrices posting → postings_of (stores_posting held number posting) ≡ set (postings_of held) number posting
  posting-put h e narrow =
      ext_get_or no_posting (postings_of (stores_posting held number posting)) (set (postings_of held) number posting)
      (length-postings _ ∙ sym (length-set (postings_of held) number posting ∙ length-postings held))
      (λ i l. by i (omega (arith, length-postings (stores_posting held number posting), l)) (ℕ_discrete i number))
    where
      by : (i : ℕ) → i < product_limit → Dec (i ≡ number) → get_or (postings_of (stores_posting held number posting)) i no_posting ≡ get_or (set (postings_of held) number posting) i no_posting
      by i l (yes q) =
          rw q (posting-below _ number h ∙ posting-here (omega arith) narrow ∙ sym (get_or-set_same (postings_of held) number posting no_posting (omega (arith, length-postings held))))
      by i l (no q) =
          posting-below _ i l
          ∙ same-posting _ held i (elsewhere (posting_at i) (λ z. q (omega arith)) (λ z. omega arith)) (elsewhere (posting_at i + 1) (λ z. omega arith) (λ z. q (omega arith)))
          ∙ sym (get_or-set_other (postings_of held) number i posting no_posting q ∙ posting-below held i l)

  -- the securities stand before it
  pub before-posting : (k : ℕ) → k < postings_from → get_or (stores_posting held number posting) k 0 ≡ get_or held k 0
  before-posting k h = elsewhere k (λ e. omega arith) (λ e. omega arith)

-- ---- zeros post nothing

zeros-post-none : (held : List ℕ) (number : ℕ) → get_or held (posting_at number) 0 ≡ 0 → get_or held (posting_at number + 1) 0 ≡ 0 → posting_in held number ≡ no_posting
unfolding posting_in
zeros-post-none held number term prices = rw (term, prices)

pub zeros-post-nothing : (held : List ℕ) → ((k : ℕ) → postings_from ≤ k → k < 160 → get_or held k 0 ≡ 0) → postings_of held ≡ no_postings
zeros-post-nothing held zeros =
    ext_get_or no_posting (postings_of held) no_postings (length-postings held ∙ sym (length-replicate product_limit no_posting))
    (λ i l. by i (omega (arith, length-postings held, l)))
  where
    none : (i : ℕ) → i < product_limit → posting_in held i ≡ no_posting
    none i h = zeros-post-none held i (zeros (posting_at i) (omega arith) (omega arith)) (zeros (posting_at i + 1) (omega arith) (omega arith))

    by : (i : ℕ) → i < product_limit → get_or (postings_of held) i no_posting ≡ get_or no_postings i no_posting
    by i h = posting-below held i h ∙ none i h ∙ sym (get_or-replicate product_limit i no_posting no_posting h)

-- ---- whether all are fit

pub fit-each : (held : List ℕ) → all_below product_limit (λ number. posting_fit (posting_in held number)) ≡ postings_fit (postings_of held)
unfolding postings_fit
fit-each held = all_same product_limit _ _ (λ number h. sym (ap posting_fit (posting-below held number h)))
