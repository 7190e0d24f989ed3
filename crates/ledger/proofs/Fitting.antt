-- A column of tests against the list that `every` asks, test by test: a ruleset that search follows down the column.
-- The code asks them of the flat table, the definitions of the table. Assumes nothing.
use Rattle.std.specs.Prelude.{◌≡◌, ℕ, Bool, true, false, not, cond, List, [], ◌∷◌, take}
use mathlib.Core.Path.{refl, sym, ap, ◌∙◌}
use borrow.Author.Tests.{not-true, not-false}
use Rattle.money.specs.Days.{Calendar}
use Rattle.rules.specs.Folds.{every}
use Rattle.rules.specs.Trades.{outstanding, differ}
use Rattle.rules.specs.Fit.{capacity_fit, securities_fit, cash_fit, trade_fit, all_trades, size_fit, postings_fit, nets_fit, sums_fit, withdrawals_fit, day_fit, fit}
use Rattle.rules.proofs.FitParts.{capacity-fits}
use Rattle.ledger.specs.Types.{Book, Trade}
use Rattle.ledger.specs.Flat.{trades_to, trades_of}
use Rattle.ledger.proofs.SumLaws.{test-fails, test-holds}
use Rattle.ledger.proofs.FitFacts.{in-use-of}

-- the last test decides
pub last-test : (test r : Bool) → r ≡ test → r ≡ every (test ∷ [])
unfolding every
last-test true r e = e
last-test false r e = e

-- a call's answer that the code turned round
pub refuted : {x r : Bool} → r ≡ x → not r ≡ true → x ≡ false
refuted e h = sym e ∙ not-true _ h

pub upheld : {x r : Bool} → r ≡ x → not r ≡ false → x ≡ true
upheld e h = sym e ∙ not-false _ h

pub ruleset fitting = (test-fails, test-holds, last-test, refuted, upheld)

-- ---- the tests of a book, asked of the flat table

-- those after the first, of the trades in use
abbrev later_tests : Calendar → Book → List Trade → List Bool
later_tests calendar book in_use =
    securities_fit book.vault
    ∷ cash_fit book.cash book.vault.guarantee
    ∷ all_trades trade_fit in_use
    ∷ size_fit book.size.0 (outstanding in_use)
    ∷ postings_fit book.postings
    ∷ nets_fit book.nets
    ∷ sums_fit book.sums
    ∷ differ in_use
    ∷ withdrawals_fit book.withdrawals
    ∷ day_fit calendar book.standing.day book.standing.phase in_use book.trades
    ∷ []

-- where the table has room, the trades in use are the flat table's first; where it has not, no other test counts
pub by-flat-tests : (calendar : Calendar) (book : Book) (table : List ℕ) (r : Bool)
    → r ≡ every (capacity_fit book.trades (trades_of table) ∷ later_tests calendar book (trades_to table book.trades)) → r ≡ fit calendar book (trades_of table)
unfolding fit every
by-flat-tests calendar book table r e = e ∙ by-capacity (capacity_fit book.trades (trades_of table)) refl
  where
    tests : Bool → List Trade → Bool
    tests first in_use = every (first ∷ later_tests calendar book in_use)

    by-capacity : (first : Bool) → capacity_fit book.trades (trades_of table) ≡ first → tests first (trades_to table book.trades) ≡ tests first (take book.trades (trades_of table))
    by-capacity true h = ap (tests true) (sym (in-use-of table book.trades (capacity-fits book.trades (trades_of table) h)))
    by-capacity false h = refl

-- where a trade is past its limits, the tests before do not count
pub unfit-trades : (calendar : Calendar) (book : Book) (table : List ℕ) → all_trades trade_fit (trades_to table book.trades) ≡ false → fit calendar book (trades_of table) ≡ false
unfolding every
unfit-trades calendar book table e =
    sym (by-flat-tests calendar book table false
    (rw e (either (capacity_fit book.trades (trades_of table)) (securities_fit book.vault) (cash_fit book.cash book.vault.guarantee))))
  where
    either : (room vault cash : Bool) → false ≡ cond room (cond vault (cond cash false false) false) false
    either true true true = refl
    either true true false = refl
    either true false cash = refl
    either false vault cash = refl
