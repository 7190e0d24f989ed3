-- The lent table against its flat copy: when the copy has the table's trades, and a table that is too long.
-- For the functions of table.rt and copies.rt. Assumes nothing.
use Rattle.std.proofs.Common.{below_more, ◌≢◌, ◌≡◌, ℕ, ◌+◌, ◌*◌, ◌<◌, ◌≤◌, true, List, ◌++◌, length, get_or, take, set, sym, refl, ap, ◌∙◌, arith, length-take-le, get_or-set_other, get_or-take, get_or-set_same, ext_get_or}
use borrow.Author.Tests.{lt-leb}
use lib.ListN.{get_or-append}
use Rattle.money.specs.Days.{Calendar}
use Rattle.rules.specs.Folds.{every}
use Rattle.rules.specs.Book.{answer}
use Rattle.rules.specs.Trades.{no_trade}
use Rattle.rules.specs.Fit.{capacity_fit, fit}
use Rattle.rules.specs.Step.{outcome, unfit, step}
use Rattle.book.specs.Types.{Book, Trade, Entry}
use Rattle.ledger.specs.Flat.{width, trades_to, capacity, trades_of}
use Rattle.ledger.proofs.FlatLaws.{length-trades, trade-below, trade-at}
use Rattle.ledger.proofs.StoreLaws.{same-words}
use Rattle.ledger.proofs.StepLaws.{unfit-step}

-- ---- the first trades of a longer row of numbers

-- rows that begin with the same numbers begin with the same trades
same-front : (s t : List ℕ) (n : ℕ) → ((j : ℕ) → j < n * width → get_or s j 0 ≡ get_or t j 0) → trades_to s n ≡ trades_to t n
same-front s t n h =
    ext_get_or no_trade (trades_to s n) (trades_to t n) (length-trades s n ∙ sym (length-trades t n))
    (λ i l.
    let k : i < n = omega (arith, length-trades s n, l) in
    trade-below s n i k ∙ same-words s t i i (λ j q. h (i * width + j) (omega arith)) ∙ sym (trade-below t n i k))

all-trades : (row : List ℕ) (n : ℕ) → length row ≡ n * width → trades_of row ≡ trades_to row n
all-trades row n e =
    let c : capacity row ≡ n = omega (arith, e) in
    ap (trades_to row) c

pub trades-of-front : (row : List ℕ) (n : ℕ) → n * width ≤ length row → trades_of (take (n * width) row) ≡ trades_to row n
trades-of-front row n h = all-trades (take (n * width) row) n (length-take-le (n * width) row h) ∙ same-front (take (n * width) row) row n (λ j l. get_or-take (n * width) row j 0 l)

pub trades-before : (front rest : List ℕ) (n : ℕ) → length front ≡ n * width → trades_to (front ++ rest) n ≡ trades_of front
trades-before front rest n e = same-front (front ++ rest) front n (λ j l. get_or-append front rest 0 j (omega (arith, e, l))) ∙ sym (all-trades front n e)

-- ---- copied in or out, one trade after the other

-- the first k trades of a row of numbers are those of a table
abbrev pub Copied : List ℕ → List Trade → (k : ℕ) → Type 0
Copied row table k = (i : ℕ) → i < k → get_or (trades_of row) i no_trade ≡ get_or table i no_trade

pub copied_next : (row next : List ℕ) (table : List Trade) (k : ℕ) → k * width + 4 < length row → trades_of next ≡ set (trades_of row) k (get_or table k no_trade) → Copied row table k → Copied next table (k + 1)
copied_next row next table k room e copied =
    let there : k < length (trades_of row) = omega (arith, length-trades row (capacity row), room) in
    rw e
    (below_more _ _
    (λ i l. let other : i ≢ k = omega arith in rw get_or-set_other (copied i l))
    (rw get_or-set_same))

pub copied_all : (row : List ℕ) (table : List Trade) (k : ℕ) → length table * width ≤ length row → length table ≤ k → Copied row table k → trades_to row (length table) ≡ table
copied_all row table k room end copied =
    ext_get_or no_trade (trades_to row (length table)) table (length-trades row (length table))
    (λ i l.
    let inside : i < length table = omega (arith, length-trades row (length table), l) in
    trade-below row (length table) i inside ∙ sym (trade-at row i (omega (arith, inside, room))) ∙ copied i (omega arith))

-- ---- a table that is too long

long-unfit : (calendar : Calendar) (book : Book) (table : List Trade) → 4096 < length table → unfit calendar book table ≡ true
unfolding fit every capacity_fit
long-unfit calendar book table h = rw (lt-leb (length table) 4096 h) refl

pub long-step : (calendar : Calendar) (book : Book) (table : List Trade) → 4096 < length table → (entry : Entry) → step calendar book table entry ≡ outcome (answer 1) book table
long-step calendar book table h entry = unfit-step calendar book table (long-unfit calendar book table h) entry
