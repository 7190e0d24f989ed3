-- Next terms over the flat table: which start by the code's tests, the record that starts, and what a plan and a writing pass make of one trade
-- more. For the functions of next_term.rt, and for Close. Assumes nothing.
use Rattle.std.specs.Prelude.{◌≡◌, ℕ, zero, suc, ◌+◌, ◌<◌, ◌≤◌, Bool, true, false, cond, not, eqb, List, [], ◌∷◌, map, length, drop, set, pos, Option}
use mathlib.Core.Path.{refl, sym, ap, ◌∙◌}
use mathlib.Core.Bool.{false≢true}
use native.Mathlib.Omega.{arith}
use borrow.Author.Tests.{eq-eqb, ne_eqb, lt-leb, le-ltb}
use lib.Seq.{drop_at}
use lib.Signed.{lt_z}
use Rattle.std.specs.Bool.{then_some}
use Rattle.money.specs.Limits.{calendar_limit, term_limit}
use Rattle.money.specs.Days.{Calendar, at_or_after}
use Rattle.money.proofs.TwoTests.{both}
use Rattle.rules.specs.Folds.{every}
use Rattle.rules.specs.Limits.{product_limit}
use Rattle.rules.specs.Book.{is_normal, posting_at, is_posted}
use Rattle.rules.specs.Days.{today, followed}
use Rattle.rules.specs.Trades.{outstanding, total, maturing, matured, over}
use Rattle.rules.specs.Vault.{value, headroom_of}
use Rattle.rules.specs.Fit.{postings_fit, trade_fit, all_trades}
use Rattle.rules.specs.Initial.{off_term, bad_due}
use Rattle.rules.specs.NextTerm.{next_term, starts, with_started, in_slot, left_from, started_from}
use Rattle.rules.proofs.FitParts.{PostingFits, postings-fit}
use Rattle.rules.proofs.KeepsFit.{none-posted-fits}
use Rattle.rules.proofs.TradeLaws.{maturing-le}
use Rattle.rules.proofs.NextTermTurns.{left-more, outstanding-more, left-matured}
use Rattle.ledger.specs.Types.{Book, Posting, Trade, Some, None}
use Rattle.ledger.specs.Flat.{trade_at, trades_to, capacity, trades_of, posting_in, postings_of}
use Rattle.ledger.specs.NextTerm.{Closing, Meets, MeetsWhere, RenewableWhere}
use Rattle.ledger.proofs.SumLaws.{test-fails, test-holds, some-told, none-told}
use Rattle.ledger.proofs.Fitting.{last-test}
use Rattle.ledger.proofs.Column.{second_holds, neither-holds}
use Rattle.ledger.proofs.PostingLaws.{posting-below}
use Rattle.ledger.proofs.RedemptionLaws.{over-set, within_of}
use Rattle.ledger.proofs.FlatLaws.{no-trades, one_more, length-trades, same-trade}

-- ---- what is posted for a product

pub posting-within : (postings : List Posting) → postings_fit postings ≡ true → (product : ℕ) → product ≤ product_limit → PostingFits (posting_at postings product)
posting-within postings e zero h = none-posted-fits
posting-within postings e (suc number) h = postings-fit postings e number h

-- a posted term is short
pub term-short : (held : List ℕ) (trade : Trade) → postings_fit (postings_of held) ≡ true → trade_fit trade ≡ true → (posting_at (postings_of held) trade.product).term ≤ 365
term-short held trade fits fit = (posting-within _ fits _ (within_of trade fit).product).term

-- a posting that was told by a trade's product
module _ (held : List ℕ) (trade : Trade) {posting : Posting} {product : ℕ}
    (read : ◌≡◌ {A = Option Posting} (Some posting) (then_some (is_posted (posting_at (postings_of held) product)) (posting_at (postings_of held) product))) (its : product ≡ trade.product) where
  pub told-posted : (is_posted (posting_at (postings_of held) trade.product) ≡ true) × (posting ≡ posting_at (postings_of held) trade.product)
  told-posted = some-told _ _ _ (rw its at read)

  pub told-short : postings_fit (postings_of held) ≡ true → trade_fit trade ≡ true → posting.term ≤ 365
  told-short fits fit = omega (arith, ap (λ (p : Posting). p.term) told-posted.1, term-short held trade fits fit)

-- where nothing is posted, nothing is posted for any product
pub nothing-posted : (held : List ℕ) → ((number : ℕ) → number < product_limit → is_posted (posting_in held number) ≡ false)
    → (product : ℕ) → product ≤ product_limit → is_posted (posting_at (postings_of held) product) ≡ false
nothing-posted held none zero h = refl
nothing-posted held none (suc number) h = ap is_posted (posting-below held number h) ∙ none number h

-- ---- where none starts

module _ (calendar : Calendar) (book : Book) (o : ℕ) (trade : Trade) where
  pub not-while-not-normal : is_normal book.standing.status ≡ false → starts calendar book o trade ≡ false
  unfolding starts every
  not-while-not-normal e = rw e (either (not (eqb (maturing (today book) trade) 0)))
    where
      either : (due : Bool) → cond due false false ≡ false
      either true = refl
      either false = refl

  pub not-where-none-posted : is_posted (posting_at book.postings trade.product) ≡ false → starts calendar book o trade ≡ false
  unfolding starts every
  not-where-none-posted e = rw e (either (not (eqb (maturing (today book) trade) 0)) (is_normal book.standing.status))
    where
      either : (due normal : Bool) → cond due (cond normal false false) false ≡ false
      either true true = refl
      either true false = refl
      either false normal = refl

-- ---- whether a next term starts, by the code's tests in their order

module _ (calendar : Calendar) (book : Book) (closing : Closing) (held : List ℕ) (met : Meets calendar book closing held) (o : ℕ) (trade : Trade) where
  abbrev term : ℕ
  term = (posting_at (postings_of held) trade.product).term

  same-sheets : maturing closing.today trade ≡ maturing (today book) trade
  same-sheets = ap (λ (day : ℕ). maturing day trade) met.today

  same-term : term ≡ (posting_at book.postings trade.product).term
  same-term = ap (λ (postings : List Posting). (posting_at postings trade.product).term) met.postings

  pub none-due : maturing closing.today trade ≡ 0 → false ≡ starts calendar book o trade
  unfolding starts
  none-due e = test-fails _ _ (ap not (eq-eqb (maturing (today book) trade) 0 (sym same-sheets ∙ e)))

  module _ (some : maturing closing.today trade ≡ 0 → ⊥) where
    due : not (eqb (maturing (today book) trade) 0) ≡ true
    due = ap not (ne_eqb (maturing (today book) trade) 0 (λ z. some (same-sheets ∙ z)))

    pub not-posted : is_posted (posting_at (postings_of held) trade.product) ≡ false → false ≡ starts calendar book o trade
    unfolding starts
    not-posted e = test-holds _ _ _ due (test-holds _ _ _ met.normal (test-fails _ _ (rw met.postings at e)))

    module _ (posted : is_posted (posting_at (postings_of held) trade.product) ≡ true) where
      is-posted : is_posted (posting_at book.postings trade.product) ≡ true
      is-posted = rw met.postings at posted

      some-days : term ≡ 0 → ⊥
      some-days e = false≢true (sym (ap not (eq-eqb term 0 e)) ∙ posted)

      pub no-maturity : followed calendar (at_or_after calendar (closing.today + term)) ≡ false → false ≡ starts calendar book o trade
      unfolding starts
      no-maturity e =
          let due-day = today book + (posting_at book.postings trade.product).term in
          let late : bad_due calendar (today book) due-day ≡ true = second_holds (off_term (today book) due-day) (ap not (rw (met.today, same-term) at e)) in
          test-holds _ _ _ due
          (test-holds _ _ _ met.normal (test-holds _ _ _ is-posted (test-fails _ _ (ap not late))))

      pub by-headroom : term ≤ 365 → followed calendar (at_or_after calendar (closing.today + term)) ≡ true
          → (lacks : Bool) → lacks ≡ lt_z (headroom_of closing.size.0 closing.value.0 o) (pos (maturing closing.today trade)) → not lacks ≡ starts calendar book o trade
      unfolding starts
      by-headroom short e lacks asked =
          let found = rw (met.today, same-term) at e in
          let due-day = today book + (posting_at book.postings trade.product).term in
          let on-term = neither-holds (lt-leb due-day (today book) (omega (arith, some-days, same-term))) (le-ltb (today book + 365) due-day (omega (arith, short, same-term))) in
          let told : lacks ≡ lt_z (headroom_of book.size.0 (value book.vault) o) (pos (maturing (today book) trade)) = asked ∙ rw (met.size, met.value, same-sheets) in
          test-holds _ _ _ due
          (test-holds _ _ _ met.normal
          (test-holds _ _ _ is-posted
          (test-holds _ _ _ (ap not (neither-holds on-term (ap not found)))
          (last-test _ _ (ap not told)))))

-- ---- O and the slots, one trade more

pub with-at-most : (started : Bool) (book : Book) (trade : Trade) (o : ℕ) → with_started started book trade o ≤ o + trade.sheets.0
with-at-most true book trade o = omega (arith, maturing-le (today book) trade)
with-at-most false book trade o = omega arith

-- with the next term that was told, or none
module _ (calendar : Calendar) (book : Book) (o : ℕ) (trade : Trade) where
  abbrev Told : Option Trade → Type 0
  Told next = ◌≡◌ {A = Option Trade} next (then_some (starts calendar book o trade) (next_term calendar book trade))

  pub next-few : (next : Trade) → Told (Some next) → next.sheets.0 ≤ trade.sheets.0
  next-few next e = omega (arith, ap (λ (t : Trade). t.sheets.0) (some-told _ _ _ e).1, maturing-le (today book) trade)

  pub with-next : (next : Trade) → Told (Some next) → o + next.sheets.0 ≡ with_started (starts calendar book o trade) book trade o
  with-next next e = rw ((some-told _ _ _ e).0, (some-told _ _ _ e).1) refl

  pub with-none : Told None → o ≡ with_started (starts calendar book o trade) book trade o
  with-none e = rw (none-told _ _ e) refl

module _ (calendar : Calendar) (book : Book) (o : ℕ) where
  pub none-started : (table : List ℕ) → o ≡ o + outstanding (started_from calendar book o (trades_to table 0))
  unfolding started_from outstanding total
  none-started table = rw (no-trades table) (omega arith)

  -- where O counts the terms that started before a trade, it does so with that trade
  pub started-more : (table : List ℕ) (place sum next : ℕ) → sum ≡ o + outstanding (started_from calendar book o (trades_to table place))
      → next ≡ with_started (starts calendar book sum (trade_at table place)) book (trade_at table place) sum
      → next ≡ o + outstanding (started_from calendar book o (trades_to table (place + 1)))
  started-more table place sum next e n =
      n
      ∙ ap (λ (now : ℕ). with_started (starts calendar book now (trade_at table place)) book (trade_at table place) now) e
      ∙ sym (outstanding-more calendar book o (trades_to table place) (trade_at table place))
      ∙ ap (λ (trades : List Trade). o + outstanding (started_from calendar book o trades)) (sym (one_more table place))

length-left : (calendar : Calendar) (book : Book) (o : ℕ) (l : List Trade) → length (left_from calendar book o l) ≡ length l
unfolding left_from
length-left calendar book o [] = refl
length-left calendar book o (t ∷ l) = ap suc (length-left calendar book (with_started (starts calendar book o t) book t o) l)

pub left-long : (calendar : Calendar) (book : Book) (o : ℕ) (table : List ℕ) (n : ℕ) → length (left_from calendar book o (trades_to table n)) ≡ n
left-long calendar book o table n = length-left calendar book o (trades_to table n) ∙ length-trades table n

module _ (calendar : Calendar) (book : Book) (o : ℕ) (s t : List ℕ) (place : ℕ) (e : length t ≡ length s)
    (written : trades_of t ≡ over place (left_from calendar book o (trades_to s place)) (trades_of s)) where
  -- the next trade is as it was
  pub trade-to-come : place < capacity s → trade_at t place ≡ trade_at s place
  trade-to-come h =
      same-trade t s place e h (ap (drop place) written ∙ drop_at (left_from calendar book o (trades_to s place)) (drop place (trades_of s)) place (left-long calendar book o s place))

  pub slot-more : (u : List ℕ) (sum : ℕ) → place < capacity s → sum ≡ o + outstanding (started_from calendar book o (trades_to s place))
      → trades_of u ≡ set (trades_of t) place (in_slot (starts calendar book sum (trade_at t place)) calendar book (trade_at t place))
      → trades_of u ≡ over (place + 1) (left_from calendar book o (trades_to s (place + 1))) (trades_of s)
  slot-more u sum h now m =
      let l = trades_to s place in
      let here = trade_at s place in
      let slot = in_slot (starts calendar book (o + outstanding (started_from calendar book o l)) here) calendar book here in
      m
      ∙ rw (trade-to-come h, now, written) (over-set place (left_from calendar book o l) (trades_of s) slot (left-long calendar book o s place) (omega (arith, length-trades s (capacity s))))
      ∙ ap (λ (slots : List Trade). over (place + 1) slots (trades_of s))
      (sym (left-more calendar book o l here) ∙ ap (left_from calendar book o) (sym (one_more s place)))

-- what may be relied on of a Close, from a fit book
pub renewable-where : (calendar : Calendar) (book : Book) (held : List ℕ) (closing : Option Closing) → MeetsWhere calendar book closing held
    → length calendar ≤ calendar_limit → postings_fit (postings_of held) ≡ true → today book < term_limit → RenewableWhere calendar closing held
renewable-where calendar book held (Some closing) met few posted day =
    record { book = book; met = met; few = few; posted = posted; day = omega (arith, met.today, day) }
renewable-where calendar book held None met few posted day = record {}

-- where none may start, none does, and the trades stay matured
module _ (calendar : Calendar) (book : Book) (none : (o : ℕ) (trade : Trade) → trade.product ≤ product_limit → starts calendar book o trade ≡ false) where
  none-starts : (o : ℕ) (l : List Trade) → all_trades trade_fit l ≡ true → started_from calendar book o l ≡ []
  unfolding started_from all_trades
  none-starts o [] fits = refl
  none-starts o (t ∷ l) fits =
      let each = both (trade_fit t) (all_trades trade_fit l) fits in
      rw (none o t (within_of t each.0).product) (none-starts o l each.1)

  pub no_more : (o : ℕ) (l : List Trade) → all_trades trade_fit l ≡ true → o ≡ o + outstanding (started_from calendar book o l)
  unfolding outstanding total
  no_more o l fits = rw (none-starts o l fits) (omega arith)

  pub all-matured : (o : ℕ) (l : List Trade) → all_trades trade_fit l ≡ true → left_from calendar book o l ≡ map (matured (today book)) l
  all-matured o l fits = left-matured calendar book o l (none-starts o l fits)

pub none-settled : (calendar : Calendar) (book : Book) (o : ℕ) (s : List ℕ) → trades_of s ≡ over 0 (left_from calendar book o (trades_to s 0)) (trades_of s)
unfolding left_from
none-settled calendar book o s = rw (no-trades s)
