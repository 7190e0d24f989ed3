-- What a fit book tells an initial trade: today lies in the calendar, and the sum of sheets and the amount stay within their words.
-- Assumes nothing.
use Rattle.std.specs.Prelude.{◌≡◌, ℕ, ◌*◌, ◌%◌, ◌<◌, ◌≤◌, true, false, not, ◌||◌, eqb, ltb, List, length}
use mathlib.Core.Path.{sym}
use mathlib.Core.Option.{none}
use native.Mathlib.Decide.{dec_le}
use native.Mathlib.Omega.{arith}
use borrow.Author.Tests.{ltb-false, leb-false}
use Rattle.money.specs.Limits.{trade_limit}
use Rattle.money.specs.Causes.{first_of}
use Rattle.money.specs.Days.{Calendar, trades}
use Rattle.money.proofs.Least.{past-rests}
use Rattle.rules.specs.Days.{day_number}
use Rattle.rules.specs.Trades.{in_use}
use Rattle.rules.specs.Fit.{day_fit, fit}
use Rattle.rules.specs.Initial.{bad_count, initial_causes}
use Rattle.rules.proofs.FoldLaws.{neither, every_holds}
use Rattle.rules.proofs.FitParts.{fit_parts}
use Rattle.rules.proofs.Accepted.{all-clear}
use Rattle.ledger.specs.Types.{Book, Day, None, Some, Phase, Terms, Trade}
use Rattle.ledger.specs.Flat.{capacity, trades_of}
use Rattle.ledger.proofs.FlatLaws.{length-trades}

-- a trading day lies in the calendar
trading-within : (calendar : Calendar) (day : ℕ) → trades calendar day ≡ true → day < 32 * length calendar
trading-within calendar day e = side (dec_le (32 * length calendar) day)
  where
    side : Dec (32 * length calendar ≤ day) → day < 32 * length calendar
    side (yes l) = let r = past-rests calendar day l in let z : ◌≡◌ {A = ℕ} 0 1 = cc in absurd (omega arith)
    side (no l) = omega arith

day-within : (calendar : Calendar) (day : Day) (phase : Phase) (l : List Trade) (count : ℕ) → length calendar ≤ 1200 → day_fit calendar day phase l count ≡ true → day_number day < 38400
day-within calendar None phase l count h e = omega arith
day-within calendar (Some today) phase l count h e = omega (arith, trading-within calendar today (every_holds _ e).0)

pub today-within : (calendar : Calendar) (book : Book) (table : List Trade) → fit calendar book table ≡ true → length calendar ≤ 1200 → day_number book.standing.day < 38400
today-within calendar book table fits h =
    day-within calendar book.standing.day book.standing.phase (in_use book.trades table) book.trades h (fit_parts calendar book table fits).day

-- sheets that are no bad count are within a trade's limit
pub count-within : (count : ℕ) → bad_count count ≡ false → count ≤ trade_limit
count-within count e = ltb-false trade_limit count (neither (eqb count 0 || not (eqb (count % 10) 0)) (ltb trade_limit count) e).1

-- ---- where no cause applies

module _ (calendar : Calendar) (book : Book) (table : List ℕ) (terms : Terms) where
  -- there is room for one more trade, of sheets within a trade's limit
  pub record Begins : Type 0 where
    pub few : terms.sheets.0 ≤ trade_limit
    pub room : book.trades < capacity table

  pub initial-begins : none ≡ first_of (initial_causes calendar book (trades_of table) terms) → Begins
  unfolding initial_causes
  initial-begins e =
      let clear = all-clear (initial_causes calendar book (trades_of table) terms) (sym e) in
      record {
        few = count-within terms.sheets.0 (clear 7);
        room = omega (arith, leb-false (length (trades_of table)) book.trades (clear 11), length-trades table (capacity table));
      }
