-- Whole rows have no number that what they hold does not tell: who says the book and the trades says every number, so that a refused call
-- leaves each of them. For the calls on lent numbers. Assumes nothing.
use Rattle.std.specs.Prelude.{◌≡◌, ℕ, zero, suc, ◌+◌, ◌-◌, ◌*◌, ◌/◌, ◌%◌, ◌^◌, ◌<◌, false, List, length, get_or}
use mathlib.Core.Path.{sym, ap, ◌∙◌}
use native.Mathlib.Nat.{add-zero}
use native.Mathlib.Omega.{arith}
use native.Mathlib.Decide.{dec_lt}
use lib.Seq.{ext_get_or}
use Rattle.money.specs.Days.{Calendar}
use Rattle.rules.specs.declared.answer.Answer.{Answer}
use Rattle.rules.specs.Book.{no_security, no_posting}
use Rattle.rules.specs.Trades.{no_trade}
use Rattle.rules.specs.Step.{Outcome, outcome, step, accepted}
use Rattle.rules.proofs.Answers.{refused-leaves-all}
use Rattle.ledger.specs.Types.{Book, Entry, Security, Posting, Trade}
use Rattle.ledger.specs.Flat.{lower, upper, trade_at, trades_of, security_in, securities_of, posting_in, postings_of, scalars_of}
use Rattle.ledger.specs.Lent.{Lent, lent, book_in, table_in}
use Rattle.scalars.specs.declared.state.Scalars.{Scalars}
use Rattle.ledger.proofs.FlatLaws.{trade-at}
use Rattle.ledger.proofs.HeldLaws.{security-below}
use Rattle.ledger.proofs.PostingLaws.{posting-below}
use Rattle.ledger.proofs.LentLaws.{Lengths}

-- lists of which each five numbers agree are the same
by-fives : (s t : List ℕ) → length s ≡ length t → length s % 5 ≡ 0 → ((i j : ℕ) → i * 5 + 4 < length s → j < 5 → get_or s (i * 5 + j) 0 ≡ get_or t (i * 5 + j) 0) → s ≡ t
by-fives s t e fives same =
    ext_get_or 0 s t e
    (λ k l.
    let at : k ≡ k / 5 * 5 + k % 5 = omega arith in
    ap (λ (n : ℕ). get_or s n 0) at ∙ same (k / 5) (k % 5) (omega (arith, l, fives)) (omega arith) ∙ sym (ap (λ (n : ℕ). get_or t n 0) at))

-- two halves tell a number of 64 bits
by-halves : (a b : ℕ) → a < 2 ^ 64 → b < 2 ^ 64 → lower a ≡ lower b → upper a ≡ upper b → a ≡ b
by-halves a b h k low high = omega (arith, h, k, low, high)

-- numbers of 64 bits
abbrev pub Narrow : List ℕ → Type 0
Narrow row = (k : ℕ) → get_or row k 0 < 2 ^ 64

-- a trade tells its five numbers, a security its own, and a posting its own
fields : (s t : List ℕ) (i : ℕ) → Narrow s → Narrow t → trade_at s i ≡ trade_at t i → (j : ℕ) → j < 5 → get_or s (i * 5 + j) 0 ≡ get_or t (i * 5 + j) 0
unfolding trade_at
fields s t i a b e zero q = simp add-zero (ap (λ (trade : Trade). trade.contract.0) e)
fields s t i a b e (suc zero) q = ap (λ (trade : Trade). trade.sheets.0) e
fields s t i a b e (suc (suc zero)) q = by-halves _ _ (a _) (b _) (ap (λ (trade : Trade). trade.price.0) e) (ap (λ (trade : Trade). trade.fallback.0) e)
fields s t i a b e (suc (suc (suc zero))) q = by-halves _ _ (a _) (b _) (ap (λ (trade : Trade). trade.first) e) (ap (λ (trade : Trade). trade.due) e)
fields s t i a b e (suc (suc (suc (suc zero)))) q = ap (λ (trade : Trade). trade.product) e
fields s t i a b e (suc (suc (suc (suc (suc j))))) q = absurd (omega (arith, q))

parts : (s t : List ℕ) (i : ℕ) → security_in s i ≡ security_in t i → (j : ℕ) → j < 4 → get_or s (i * 4 + j) 0 ≡ get_or t (i * 4 + j) 0
unfolding security_in
parts s t i e zero q = simp add-zero (ap (λ (security : Security). security.effective) e)
parts s t i e (suc zero) q = ap (λ (security : Security). security.arriving) e
parts s t i e (suc (suc zero)) q = ap (λ (security : Security). security.frozen) e
parts s t i e (suc (suc (suc zero))) q = ap (λ (security : Security). security.rate) e
parts s t i e (suc (suc (suc (suc j)))) q = absurd (omega (arith, q))

posted : (s t : List ℕ) (i : ℕ) → Narrow s → Narrow t → posting_in s i ≡ posting_in t i → (j : ℕ) → j < 2 → get_or s (128 + i * 2 + j) 0 ≡ get_or t (128 + i * 2 + j) 0
unfolding posting_in
posted s t i a b e zero q = simp add-zero (ap (λ (posting : Posting). posting.term) e)
posted s t i a b e (suc zero) q = by-halves _ _ (a _) (b _) (ap (λ (posting : Posting). posting.price.0) e) (ap (λ (posting : Posting). posting.fallback.0) e)
posted s t i a b e (suc (suc j)) q = absurd (omega (arith, q))

same_parts : {s s' : Scalars} {h h' k k' u u' t t' : List ℕ} → s ≡ s' → h ≡ h' → k ≡ k' → u ≡ u' → t ≡ t' → lent s h k u t ≡ lent s' h' k' u' t'
same_parts s h k u t = cc

module _ (s t : List ℕ) (long : length s ≡ length t) (narrow : Narrow s) (narrow' : Narrow t) where
  pub trades-tell : length s % 5 ≡ 0 → trades_of s ≡ trades_of t → s ≡ t
  trades-tell fives e = by-fives s t long fives same
    where
      here : (i : ℕ) → i * 5 + 4 < length s → trade_at s i ≡ trade_at t i
      here i l =
          sym (trade-at s i (omega (arith, l)))
          ∙ ap (λ (trades : List Trade). get_or trades i no_trade) e
          ∙ trade-at t i (omega (arith, l, long))

      same : (i j : ℕ) → i * 5 + 4 < length s → j < 5 → get_or s (i * 5 + j) 0 ≡ get_or t (i * 5 + j) 0
      same i j l q = fields s t i narrow narrow' (here i l) j q

  pub held_tells : length s ≡ 160 → securities_of s ≡ securities_of t → postings_of s ≡ postings_of t → s ≡ t
  held_tells whole e p = ext_get_or 0 s t long (λ k l. by k l (dec_lt k 128))
    where
      security : (i : ℕ) → i < 32 → security_in s i ≡ security_in t i
      security i h = sym (security-below s 32 i h) ∙ ap (λ (row : List Security). get_or row i no_security) e ∙ security-below t 32 i h

      posting : (i : ℕ) → i < 16 → posting_in s i ≡ posting_in t i
      posting i h = sym (posting-below s i h) ∙ ap (λ (row : List Posting). get_or row i no_posting) p ∙ posting-below t i h

      by : (k : ℕ) → k < length s → Dec (k < 128) → get_or s k 0 ≡ get_or t k 0
      by k l (yes h) =
          let at : k ≡ k / 4 * 4 + k % 4 = omega arith in
          ap (λ (n : ℕ). get_or s n 0) at ∙ parts s t (k / 4) (security (k / 4) (omega (arith, h))) (k % 4) (omega arith) ∙ sym (ap (λ (n : ℕ). get_or t n 0) at)
      by k l (no h) =
          let at : k ≡ 128 + (k - 128) / 2 * 2 + (k - 128) % 2 = omega (arith, h) in
          ap (λ (n : ℕ). get_or s n 0) at
          ∙ posted s t ((k - 128) / 2) narrow narrow' (posting ((k - 128) / 2) (omega (arith, l, whole))) ((k - 128) % 2) (omega arith)
          ∙ sym (ap (λ (n : ℕ). get_or t n 0) at)

-- ---- all that is lent

-- one stands where the other did: rows as long as before, of numbers of 64 bits
module _ (before after : Lent) (whole : Lengths before) (as-held : length after.held ≡ length before.held) (as-table : length after.table ≡ length before.table)
    (narrow-held : Narrow before.held) (narrow-held' : Narrow after.held) (narrow : Narrow before.table) (narrow' : Narrow after.table) where
  pub book-and-trades-tell : book_in after ≡ book_in before → table_in after ≡ table_in before → after ≡ before
  book-and-trades-tell book trades =
      let scalars : after.scalars ≡ before.scalars = ap scalars_of book in
      let securities = ap (λ (b : Book). b.vault.securities) book in
      let postings = ap (λ (b : Book). b.postings) book in
      let held : after.held ≡ before.held = held_tells _ _ as-held narrow-held' narrow-held (as-held ∙ whole.held) securities postings in
      let kinds : after.kinds ≡ before.kinds = ap (λ (b : Book). b.withdrawals.kinds) book in
      let units : after.units ≡ before.units = ap (λ (b : Book). b.withdrawals.units) book in
      let fives : length after.table % 5 ≡ 0 = ap (λ (n : ℕ). n % 5) as-table ∙ whole.table in
      let table : after.table ≡ before.table = trades-tell _ _ as-table narrow' narrow fives trades in
      same_parts scalars held kinds units table

  pub refused-keeps-all : (calendar : Calendar) (entry : Entry) {answer : Answer} → outcome answer (book_in after) (table_in after) ≡ step calendar (book_in before) (table_in before) entry
      → accepted answer.number ≡ false → after ≡ before
  refused-keeps-all calendar entry left refused =
      let kept = refused-leaves-all calendar (book_in before) (table_in before) entry (ap (λ (o : Outcome). accepted o.answer.number) (sym left) ∙ refused) in
      book-and-trades-tell (ap (λ (o : Outcome). o.book) left ∙ kept.0) (ap (λ (o : Outcome). o.table) left ∙ kept.1)
