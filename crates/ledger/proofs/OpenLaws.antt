-- Open: which cause applies, by what the code asks in turn, and that the trades in use can be redeemed on the day opened.
-- For the event Open. Assumes nothing.
use Rattle.std.specs.Prelude.{◌≡◌, ℕ, ◌≤◌, true, false, Bool, ltb, List, length, nat_abs, pos, ◌+ℤ◌}
use mathlib.Core.Path.{sym, ap, ◌∙◌}
use mathlib.Core.Option.{none, some}
use Rattle.money.specs.Causes.{first_of}
use Rattle.money.specs.declared.units.Fen.{Fen}
use Rattle.money.specs.Units.{fen, signed_fen}
use Rattle.money.specs.Days.{Calendar}
use Rattle.rules.specs.Limits.{net_limit}
use Rattle.rules.specs.Unpaid.{passes}
use Rattle.rules.specs.Book.{is_closed, with_standing, with_postings, no_postings}
use Rattle.rules.specs.Days.{following, payment_day, followed}
use Rattle.rules.specs.Trades.{in_use}
use Rattle.rules.specs.Fit.{net_fit, fit}
use Rattle.rules.specs.Open.{turns_terminated, next_day, fallback_sum, net_with_fallbacks, unpaid_with_fallbacks, fallbacks_pass, open_causes, opened_standing, turned_book, opened_book}
use Rattle.rules.proofs.TableFit.{all-the-same}
use Rattle.rules.proofs.DayFit.{next-day}
use Rattle.rules.proofs.FitParts.{fit_parts, parts-fit}
use Rattle.scalars.specs.Scalars.{with_unpaid}
use Rattle.scalars.specs.declared.state.Scalars.{Scalars}
use Rattle.scalars.specs.declared.done.Done.{Done}
use Rattle.ledger.specs.Types.{Nets, Standing, Book, Trading, Trade, Applied}
use Rattle.ledger.specs.Flat.{Rows, book_of, applied_at, applied_by, trades_of, Redeemable, Opening}
use Rattle.ledger.proofs.Column.{first_holds, second_holds, neither-holds}
use Rattle.ledger.proofs.NetLaws.{over-net, within-net}
use Rattle.ledger.proofs.FitFacts.{fit-redeemable}

-- ---- the cause that applies

module _ (calendar : Calendar) (book : Book) (table : List Trade) where
  pub not-closed : is_closed book.standing.phase ≡ false → first_of (open_causes calendar book table) ≡ some 4
  unfolding open_causes first_of
  not-closed e = rw e

  module _ (closed : is_closed book.standing.phase ≡ true) where
    -- 14 waits for a day to open, so 16 is the only one left
    pub no-day-to-open : followed calendar (following calendar book.standing.day) ≡ false → first_of (open_causes calendar book table) ≡ some 16
    unfolding open_causes first_of
    no-day-to-open e = rw (closed, e)

    module _ (follows : followed calendar (following calendar book.standing.day) ≡ true) where
      pub none-unless-ended : turns_terminated book.standing ≡ false → first_of (open_causes calendar book table) ≡ none
      unfolding open_causes first_of
      none-unless-ended e = rw (closed, follows, e)

      module _ (ended : turns_terminated book.standing ≡ true) where
        past-limits : fallbacks_pass calendar book table ≡ true → first_of (open_causes calendar book table) ≡ some 14
        unfolding open_causes first_of
        past-limits e = rw (closed, follows, ended, e)

        within-limits : fallbacks_pass calendar book table ≡ false → first_of (open_causes calendar book table) ≡ none
        unfolding open_causes first_of
        within-limits e = rw (closed, follows, ended, e)

        pub net-past : net_fit (net_with_fallbacks calendar book table) ≡ false → first_of (open_causes calendar book table) ≡ some 14
        net-past e = past-limits (first_holds (passes (fallback_sum calendar book table) book.sums.unpaid) (over-net (net_with_fallbacks calendar book table) e))

        pub unpaid-past : passes (fallback_sum calendar book table) book.sums.unpaid ≡ true → first_of (open_causes calendar book table) ≡ some 14
        unpaid-past e = past-limits (second_holds (ltb net_limit (nat_abs (net_with_fallbacks calendar book table))) e)

        pub none-within-limits : net_fit (net_with_fallbacks calendar book table) ≡ true → passes (fallback_sum calendar book table) book.sums.unpaid ≡ false → first_of (open_causes calendar book table) ≡ none
        none-within-limits net unpaid = within-limits (neither-holds (within-net (net_with_fallbacks calendar book table) net) unpaid)

-- ---- what the code asks of the amount that all trades are redeemed for

module _ (calendar : Calendar) (book : Book) (table : List Trade) (amount : Fen) (is : amount ≡ fen (fallback_sum calendar book table)) where
  pub net-tested : {nets : Nets} {r : Bool} → nets ≡ record { today = book.nets.today; cleared = signed_fen (book.nets.cleared.0 +ℤ pos amount.0) } → r ≡ net_fit nets.cleared.0
      → net_fit (net_with_fallbacks calendar book table) ≡ r
  net-tested n e =
      sym (e ∙ ap (λ (nets : Nets). net_fit nets.cleared.0) n ∙ ap (λ (amount : Fen). net_fit (book.nets.cleared.0 +ℤ pos amount.0)) is)

  pub unpaid-tested : {r : Bool} → r ≡ passes amount.0 book.sums.unpaid → passes (fallback_sum calendar book table) book.sums.unpaid ≡ r
  unpaid-tested e = sym (e ∙ ap (λ (amount : Fen). passes amount.0 book.sums.unpaid) is)

-- ---- what it leaves on turning terminated: `owing` are the scalars with the U that it makes

module _ (calendar : Calendar) (scalars owing : Scalars) (rows : Rows) (table : List Trade) (nets : Nets) (after : Standing) where
  pub terminated-book : turns_terminated scalars.standing ≡ true → after ≡ opened_standing calendar scalars.standing
      → nets ≡ record { today = scalars.nets.today; cleared = signed_fen (net_with_fallbacks calendar (book_of scalars rows) table) }
      → owing ≡ with_unpaid (unpaid_with_fallbacks calendar (book_of scalars rows) table) scalars
      → book_of (record { nets = nets; sums = owing.sums; cash = owing.cash; guarantee = owing.guarantee; size = owing.size; standing = after; applications = owing.applications; trades = owing.trades }) rows
      ≡ turned_book calendar (book_of scalars rows) table
  terminated-book ended opened cleared owed = rw (owed, cleared, opened, ended)

-- ---- what was posted: forgotten where Open is done

pub forgotten : (calendar : Calendar) (scalars : Scalars) (before after : Rows) (table : List Trade) (done : Done) →
    let met = book_of scalars before in
    let cause = first_of (open_causes calendar met table) in
    none ≡ cause → applied_at done before ≡ applied_by cause met (turned_book calendar met table)
    → after ≡ record { securities = before.securities; postings = no_postings; kinds = before.kinds; units = before.units }
    → applied_at done after ≡ applied_by cause met (opened_book calendar met table)
unfolding opened_book
forgotten calendar scalars before after table done clear e rows =
    let met = book_of scalars before in
    let left : applied_at done before ≡ applied_by none met (turned_book calendar met table) = e ∙ ap (λ o. applied_by o met (turned_book calendar met table)) (sym clear) in
    rw (rows, ← clear) (ap (λ (a : Applied). record { answer = a.answer; book = with_postings no_postings a.book }) left)

-- ---- redemption on the day opened

module _ (calendar : Calendar) (book : Book) (table : List ℕ) (fits : fit calendar book (trades_of table) ≡ true)
    (follows : followed calendar (following calendar book.standing.day) ≡ true) where
  -- the book is fit on the day opened too, before anything is redeemed
  fits-next-day : fit calendar (with_standing (opened_standing calendar book.standing) book) (trades_of table) ≡ true
  fits-next-day =
      let f = fit_parts calendar book (trades_of table) fits in
      let n = book.trades in
      let trades = in_use n (trades_of table) in
      parts-fit calendar (with_standing (opened_standing calendar book.standing) book) (trades_of table) (record {
        capacity = f.capacity;
        securities = f.securities;
        cash = f.cash;
        each = f.each;
        size = f.size;
        postings = f.postings;
        nets = f.nets;
        sums = f.sums;
        differing = f.differing;
        withdrawals = f.withdrawals;
        day = next-day calendar book.standing.day book.standing.phase Trading (trades_of table) trades n n f.day follows (all-the-same trades);
      })

  redeemable-next-day : length calendar ≤ 1200 → Redeemable table book.trades (payment_day calendar (next_day calendar book.standing))
  redeemable-next-day few = fit-redeemable calendar (with_standing (opened_standing calendar book.standing) book) table fits-next-day few

-- as Open finds it, with the standing that it gives
pub redeemable-opened : (calendar : Calendar) (scalars : Scalars) (table : List ℕ) (after : Standing) → Opening calendar scalars (trades_of table) after
    → Redeemable table scalars.trades (payment_day calendar after.day)
redeemable-opened calendar scalars table after opening =
    rw opening.opened (redeemable-next-day calendar (book_of scalars opening.book.rows) table opening.book.fits opening.follows opening.book.few)
