-- What one walk over the trades in use tells, trade by trade, and that the latest first payment day answers for all.
-- For the proofs of trades.rt and fit.rt. Assumes nothing.
use Rattle.std.specs.Prelude.{◌≡◌, ℕ, ◌+◌, max, Bool, true, false, ◌&&◌, leb, List, [], ◌∷◌, ◌++◌}
use mathlib.Core.Path.{refl, sym, ap}
use native.Mathlib.Omega.{arith}
use borrow.Author.Tests.{le-leb, lt-leb, leb-true, leb-false}
use Rattle.std.specs.Bool.{then_some}
use Rattle.money.specs.declared.units.Sheets.{Sheets}
use Rattle.money.specs.Units.{sheets}
use Rattle.rules.specs.Trades.{outstanding}
use Rattle.rules.specs.Fit.{trade_fit, all_trades}
use Rattle.ledger.specs.Types.{Trade, Some, None}
use Rattle.ledger.specs.Flat.{trade_at, trades_to}
use Rattle.ledger.specs.Figures.{latest_first, Summary, summary_of, IsFitWith}
use Rattle.ledger.proofs.FlatLaws.{no-trades, one_more}

-- ---- the latest first payment day

pub latest-none : (table : List ℕ) → latest_first (trades_to table 0) ≡ 0
unfolding latest_first
latest-none table = rw no-trades

latest-append : (a : List Trade) (t : Trade) → latest_first (a ++ (t ∷ [])) ≡ max (latest_first a) t.first
unfolding latest_first
latest-append [] t = omega arith
latest-append (x ∷ a) t = omega (arith, latest-append a t)

pub latest-more : (table : List ℕ) (i : ℕ) → latest_first (trades_to table (i + 1)) ≡ max (latest_first (trades_to table i)) (trade_at table i).first
latest-more table i = rw (one_more table i) (latest-append (trades_to table i) (trade_at table i))

-- all are at most a day where the latest is
pub latest-decides : (trades : List Trade) (day : ℕ) → leb (latest_first trades) day ≡ all_trades (λ trade. leb trade.first day) trades
unfolding latest_first all_trades
latest-decides [] day = le-leb 0 day (omega arith)
latest-decides (t ∷ trades) day = rw (sym (latest-decides trades day)) (go (leb t.first day) (leb (latest_first trades) day) refl refl)
  where
    go : (b c : Bool) → leb t.first day ≡ b → leb (latest_first trades) day ≡ c → leb (max t.first (latest_first trades)) day ≡ (b && c)
    go true true e f = le-leb _ day (omega (arith, leb-true t.first day e, leb-true (latest_first trades) day f))
    go true false e f = lt-leb _ day (omega (arith, leb-false (latest_first trades) day f))
    go false c e f = lt-leb _ day (omega (arith, leb-false t.first day e))

-- ---- what is told, where each trade is within its limits and where one is not

pub summary-unfit : (trades : List Trade) → all_trades trade_fit trades ≡ false → summary_of trades ≡ None
summary-unfit trades e = rw e

pub summary-where : (trades : List Trade) (told : Summary) → summary_of trades ≡ Some told
    → (all_trades trade_fit trades ≡ true) × (told.outstanding.0 ≡ outstanding trades) × (told.latest ≡ latest_first trades)
summary-where trades told e = go (all_trades trade_fit trades) refl
  where
    go : (b : Bool) → all_trades trade_fit trades ≡ b → (b ≡ true) × (told.outstanding.0 ≡ outstanding trades) × (told.latest ≡ latest_first trades)
    go true f =
        let told-is : told ≡ record { outstanding = sheets (outstanding trades); latest = latest_first trades } = let same = rw f at e in cc in
        (refl, ap (λ (s : Summary). s.outstanding.0) told-is, ap (λ (s : Summary). s.latest) told-is)
    go false f = let same = rw f at e in cc

pub summary-none : (trades : List Trade) → summary_of trades ≡ None → all_trades trade_fit trades ≡ false
summary-none trades e = go (all_trades trade_fit trades) refl
  where
    go : (b : Bool) → all_trades trade_fit trades ≡ b → b ≡ false
    go true f = let same = rw f at e in cc
    go false f = refl

-- a book's test, with O where it is fit
pub fit-with : (told fit : Bool) (counted : Sheets) (outstanding : ℕ) → told ≡ fit → (fit ≡ true → counted.0 ≡ outstanding) → IsFitWith (then_some told counted) fit outstanding
fit-with true fit counted outstanding e same = (sym e, same (sym e))
fit-with false fit counted outstanding e same = sym e
