-- What a fit book tells the code: its trades stand in the flat table within their limits, and can be redeemed on its payment day.
-- For the events, the fitness test and the cover. Assumes nothing.
use Rattle.std.specs.Prelude.{◌≡◌, ℕ, ◌*◌, ◌<◌, ◌≤◌, true, eqb, leb, List, length, take, nat_abs}
use mathlib.Core.Path.{refl, sym, ap, ◌∙◌}
use mathlib.Core.Option.{Option, none, some}
use native.Mathlib.Omega.{arith}
use borrow.Author.Tests.{le-leb, eqb-true}
use Rattle.money.specs.Limits.{term_limit}
use Rattle.money.specs.Days.{Calendar, day_or_0}
use Rattle.money.proofs.Least.{next-is-least, earliest-is-least}
use Rattle.rules.specs.Limits.{net_limit}
use Rattle.rules.specs.Book.{is_closed}
use Rattle.rules.specs.Days.{following, payment_day}
use Rattle.rules.specs.Fit.{capacity_fit, trade_fit, all_trades, net_fit, day_fit, fit}
use Rattle.money.proofs.TwoTests.{both}
use Rattle.rules.proofs.FoldLaws.{every_holds}
use Rattle.rules.proofs.FitParts.{CapacityFits, capacity-fits, fit_parts}
use Rattle.ledger.specs.Types.{Book, Day, None, Some, Phase}
use Rattle.ledger.specs.Flat.{HasSlots, trades_to, capacity, trades_of, Kept, Redeemable}
use Rattle.ledger.proofs.FlatLaws.{length-trades, take-trades, all_none}

-- ---- the payment day lies within the calendar

found_within : (calendar : Calendar) (day : Day) (d : ℕ) → following calendar day ≡ some d → d < 32 * length calendar
unfolding following
found_within calendar None d e = (earliest-is-least calendar d e).within
found_within calendar (Some today) d e = (next-is-least calendar today d e).within

pub payment-within : (calendar : Calendar) (day : Day) → length calendar ≤ 1200 → payment_day calendar day ≤ term_limit
unfolding payment_day
payment-within calendar day h = by-found (following calendar day) refl
  where
    by-found : (found : Option ℕ) → following calendar day ≡ found → day_or_0 found ≤ term_limit
    by-found none e = omega arith
    by-found (some d) e = omega (arith, found_within calendar day d e)

-- ---- the trades have begun by it: without a day there are none

begun-by-payment : (calendar : Calendar) (day : Day) (phase : Phase) (table : List ℕ) (count : ℕ) → day_fit calendar day phase (trades_to table count) count ≡ true
    → all_trades (λ trade. leb trade.first (payment_day calendar day)) (trades_to table count) ≡ true
begun-by-payment calendar None phase table count e =
    rw (eqb-true count 0 (both (is_closed phase) (eqb count 0) e).1) (all_none (λ trade. leb trade.first (payment_day calendar None)) table)
begun-by-payment calendar (Some today) phase table count e = (every_holds _ e).1.1.0

-- ---- of a table that has room

module _ (table : List ℕ) (count : ℕ) (fits : CapacityFits count (trades_of table)) where
  pub room_of : count ≤ capacity table
  room_of = omega (arith, fits.room, length-trades table (capacity table))

  -- the trades in use are the first of the table
  pub in-use-of : take count (trades_of table) ≡ trades_to table count
  in-use-of = take-trades table count room_of

  pub kept_of : all_trades trade_fit (trades_to table count) ≡ true → Kept table count
  kept_of each = record { room = omega (arith, room_of); few = omega (arith, fits.room, fits.within); within = each }

-- the same from the tests that found it so
pub room-where-fit : (table : List ℕ) (count : ℕ) → capacity_fit count (trades_of table) ≡ true → HasSlots table count
room-where-fit table count e = omega (arith, room_of table count (capacity-fits count (trades_of table) e))

pub kept-where-fit : (table : List ℕ) (count : ℕ) → capacity_fit count (trades_of table) ≡ true → all_trades trade_fit (trades_to table count) ≡ true → Kept table count
kept-where-fit table count e each = kept_of table count (capacity-fits count (trades_of table) e) each

-- ---- of a fit book

module _ (calendar : Calendar) (book : Book) (table : List ℕ) (fits : fit calendar book (trades_of table) ≡ true) where
  pub fit-in-use : take book.trades (trades_of table) ≡ trades_to table book.trades
  fit-in-use = in-use-of table book.trades (fit_parts calendar book (trades_of table) fits).capacity

  pub fit-keeps : Kept table book.trades
  fit-keeps =
      let parts = fit_parts calendar book (trades_of table) fits in
      kept_of table book.trades parts.capacity (ap (all_trades trade_fit) (sym fit-in-use) ∙ parts.each)

  pub fit-net : net_fit book.nets.today.0 ≡ true
  fit-net = le-leb (nat_abs book.nets.today.0) net_limit (fit_parts calendar book (trades_of table) fits).nets.today

  pub fit-redeemable : length calendar ≤ 1200 → Redeemable table book.trades (payment_day calendar book.standing.day)
  fit-redeemable few =
      let day = (fit_parts calendar book (trades_of table) fits).day in
      record {
        kept = fit-keeps;
        begun = begun-by-payment calendar book.standing.day book.standing.phase table book.trades (rw fit-in-use at day);
        term = payment-within calendar book.standing.day few;
      }
