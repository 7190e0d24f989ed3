-- Events of the day and its trades leave a fit book: 1 and 9 to 12. (01, Twelve events; 02, ask 4)
-- Assumes nothing.
use mathlib.Core.Path.{◌≡◌, refl}
use mathlib.Core.Bool.{Bool, true, false, cond, not, ◌&&◌, ◌||◌}
use mathlib.Core.List.{List, [], ◌∷◌, ◌++◌, map}
use mathlib.Core.Option.{none}
use Prim.Native.Nat.{ℕ, zero, suc, ◌+◌, ◌-◌, ◌%◌, ◌≤◌, min}
use native.Mathlib.Nat.{min-le_left}
use native.Mathlib.Omega.{arith}
use borrow.Author.Tests.{ltb-false, leb-false, le-leb, ne_eqb, not-false}
use lib.Dec.{leb, ltb, eqb}
use lib.IntN.{ℤ, pos, negsuc, nat_abs, sub_ℕ}
use lib.ListN.{length, take, set, length-set, length-map}
use lib.Seq.{length-take-le}
use lib.Signed.{lt_z}
use Rattle.money.specs.declared.units.Sheets.{Sheets}
use Rattle.money.specs.declared.units.Ticks.{Ticks}
use Rattle.money.specs.Limits.{trade_limit, price_limit}
use Rattle.money.specs.Causes.{first_of}
use Rattle.money.specs.Days.{Calendar}
use Rattle.rules.specs.Limits.{net_limit, product_limit}
use Rattle.rules.specs.Book.{Cash, Guarantee, Closed, Trading, Paid, Book, no_postings, is_terminated, posting_of, is_posted}
use Rattle.rules.specs.Unpaid.{unpaid_sum, unpaid_of, passes}
use Rattle.rules.specs.Days.{following, payment_day, followed}
use Rattle.rules.specs.Trades.{Contract, Trade, Terms, in_use, emptied, take_off, remaining, over}
use Rattle.rules.specs.Vault.{value, headroom, outstanding_of}
use Rattle.rules.specs.Fit.{trade_fit, day_fit}
use Rattle.rules.specs.Open.{next_day, turns_terminated, fallback_sum, net_with_fallbacks, unpaid_with_fallbacks, fallbacks_pass, open_causes, opened_book, opened_table}
use Rattle.rules.specs.Initial.{bad_product, net_less, initial_causes, begun, initial_book, initial_table}
use Rattle.rules.specs.Early.{early_amount, net_with_early, early_causes, early_book, early_table}
use Rattle.rules.specs.Pay.{payer_holds, moved, fails, pay_causes, after_pay}
use Rattle.rules.specs.Close.{matured_amount, outstanding_matured, left_trades, net_at_close, cleared_at_close, claims_at_close, close_causes, closed_book, closed_table}
use Rattle.rules.proofs.FoldLaws.{neither, every_of}
use Rattle.rules.proofs.TradeLaws.{outstanding-append, outstanding-one, length-take_off, take-over, length_over, take-packed, length-packed, take-begun}
use Rattle.rules.proofs.TableFit.{Fewer, trade_tests, all-the-same, emptied-lessens, take_off-lessens, remaining-lessens, fewer-length, fewer-outstanding, fewer-fit, fewer-begun, fewer-differ, all_append, differ-append}
use Rattle.rules.proofs.DayFit.{trading-not-closed, closing-not-closed, same-day, next-day}
use Rattle.rules.proofs.EveningFit.{evening-fits}
use Rattle.rules.proofs.KeepsFit.{none-posted}
use Rattle.rules.proofs.NextTermLaws.{left-fewer}
use Rattle.rules.proofs.Accepted.{all-clear}
use Rattle.rules.proofs.FitParts.{SecuritiesFit, CashFits, PostingsFit, NetsFit, SumsFit, WithdrawalsFit, Fit}

-- ---- a table that holds the same trades, some lessened and some gone

pub record Lessens (last n n' : ℕ) (table table' : List Trade) : Type 0 where
  pub long : length table' ≡ length table
  pub count : n' ≤ n
  pub fewer : Fewer last (in_use n' table') (in_use n table)

same-lessens : (last n : ℕ) (table : List Trade) → Lessens last n n table table
same-lessens last n table = record { long = refl; count = omega arith; fewer = all-the-same (in_use n table) }

over-lessens : (last n : ℕ) (table changed : List Trade) → n ≤ length table → length changed ≡ length (take n table) → Fewer last changed (take n table)
    → Lessens last n n table (over n changed table)
over-lessens last n table changed h e f = record { long = length_over n changed table h e; count = omega arith; fewer = rw (take-over n changed table h e) f }

-- headroom is not below a number of sheets
not-below : (most outstanding q : ℕ) → lt_z (sub_ℕ most outstanding) (pos q) ≡ false → outstanding + q ≤ most
not-below most outstanding q e = go (ltb most outstanding) refl e
  where
    go : (b : Bool) → ltb most outstanding ≡ b → lt_z (cond b (negsuc (outstanding - suc most)) (pos (most - outstanding))) (pos q) ≡ false → outstanding + q ≤ most
    go true m e = let z : ◌≡◌ {A = ℕ} 0 1 = cc in absurd (omega arith)
    go false m e = omega (arith, ltb-false most outstanding m, ltb-false (most - outstanding) q e)

-- what the payer holds goes to the other account, so the sum stays
moved-fits : (net : ℤ) (cash : Cash) (guarantee : Guarantee) → CashFits cash guarantee → ltb (payer_holds net cash) (nat_abs net) ≡ false → CashFits (moved net cash) guarantee
moved-fits (pos net) cash guarantee c h = record { sum = omega (arith, c.sum, ltb-false cash.own.0 net h); free = c.free }
moved-fits (negsuc net) cash guarantee c h = record { sum = omega (arith, c.sum, ltb-false cash.client.0 (suc net) h); free = c.free }

module _ (calendar : Calendar) (book : Book) (table : List Trade) (f : Fit calendar book table) where
  -- the groups that read the table follow, and the others are given
  lessened-fits : {last : ℕ} (book' : Book) (table' : List Trade) → Lessens last book.trades book'.trades table table' → book'.size ≡ book.size
      → SecuritiesFit book'.vault → CashFits book'.cash book'.vault.guarantee → PostingsFit book'.postings → NetsFit book'.nets → SumsFit book'.sums → WithdrawalsFit book'.withdrawals
      → day_fit calendar book'.standing.day book'.standing.phase (in_use book'.trades table') book'.trades ≡ true → Fit calendar book' table'
  lessened-fits book' table' l s securities cash postings nets sums withdrawals day = record {
    capacity = record { within = rw l.long f.capacity.within; room = rw l.long (omega (arith, l.count, f.capacity.room)) };
    securities = securities;
    cash = cash;
    each = fewer-fit l.fewer f.each;
    size = record { within = rw s f.size.within; covers = rw s (omega (arith, f.size.covers, fewer-outstanding l.fewer)) };
    postings = postings;
    nets = nets;
    sums = sums;
    differing = fewer-differ l.fewer f.differing;
    withdrawals = withdrawals;
    day = day;
  }

  -- ---- 1 Open

  opened-lessens : (last : ℕ) (ended : Bool) → Lessens last book.trades book.trades table (cond ended (over book.trades (map emptied (in_use book.trades table)) table) table)
  opened-lessens last true = over-lessens last book.trades table (map emptied (in_use book.trades table)) f.capacity.room (length-map (in_use book.trades table) emptied) (emptied-lessens (in_use book.trades table))
  opened-lessens last false = same-lessens last book.trades table

  -- what was posted is forgotten
  pub opened-forgets : (opened_book calendar book table).postings ≡ no_postings
  unfolding opened_book
  opened-forgets = refl

  pub opened-fits : first_of (open_causes calendar book table) ≡ none → Fit calendar (opened_book calendar book table) (opened_table book table)
  unfolding open_causes opened_book opened_table
  opened-fits e =
      let follows = not-false (followed calendar (following calendar book.standing.day)) (all-clear (open_causes calendar book table) e 16) in
      let l = opened-lessens (payment_day calendar (next_day calendar book.standing)) (turns_terminated book.standing) in
      let within = cleared-within (followed calendar (following calendar book.standing.day)) (turns_terminated book.standing) follows (all-clear (open_causes calendar book table) e 14) in
      lessened-fits (opened_book calendar book table) (opened_table book table) l refl f.securities f.cash none-posted
      (record { today = f.nets.today; cleared = within.0 }) (record { unpaid = within.1 }) f.withdrawals
      (next-day calendar book.standing.day book.standing.phase Trading table _ book.trades book.trades f.day follows l.fewer)
    where
      cleared-within : (goes ended : Bool) → goes ≡ true → (goes && ended && fallbacks_pass calendar book table) ≡ false
          → (nat_abs (cond ended (net_with_fallbacks calendar book table) book.nets.cleared.0) ≤ net_limit)
          × (unpaid_sum (cond ended (unpaid_with_fallbacks calendar book table) book.sums.unpaid) ≤ net_limit)
      cleared-within true true g h =
          let net = net_with_fallbacks calendar book table in
          let n = neither (ltb net_limit (nat_abs net)) (passes (fallback_sum calendar book table) book.sums.unpaid) h in
          (ltb-false net_limit (nat_abs net) n.0, omega (arith, ltb-false net_limit (unpaid_of book + fallback_sum calendar book table) n.1))
      cleared-within true false g h = (f.nets.cleared, f.sums.unpaid)
      cleared-within false ended g h = let z : ◌≡◌ {A = ℕ} 0 1 = cc in absurd (omega arith)

  -- ---- 9 Initial

  -- a product that an initial trade may name
  known-product : (product : ℕ) → bad_product book product ≡ false → product ≤ product_limit
  known-product zero e = omega arith
  known-product (suc number) e =
      let off = rw (ne_eqb (suc number) 0 (λ q. omega arith)) at e in
      ltb-false product_limit (suc number) (neither (ltb product_limit (suc number)) (not (is_posted (posting_of book (suc number)))) off).0

  begun-fits : (terms : Terms) → first_of (initial_causes calendar book table terms) ≡ none → trade_fit (begun calendar book terms) ≡ true
  unfolding initial_causes
  begun-fits terms e =
      let q = terms.sheets.0 in
      let cs = initial_causes calendar book table terms in
      let count = (neither (eqb q 0 || not (eqb (q % 10) 0)) (ltb trade_limit q) (all-clear cs e 7)).1 in
      let prices = neither (ltb price_limit terms.price.0) (ltb price_limit terms.fallback.0) (all-clear cs e 8) in
      every_of (trade_tests (begun calendar book terms)) (
        le-leb q trade_limit (ltb-false trade_limit q count),
        (
          le-leb terms.price.0 price_limit (ltb-false price_limit terms.price.0 prices.0),
          (
            le-leb terms.fallback.0 price_limit (ltb-false price_limit terms.fallback.0 prices.1),
            (le-leb terms.product product_limit (known-product terms.product (all-clear cs e 20)), tt),
          ),
        ),
      )

  -- headroom for a trade: S covers it beside what is outstanding
  initial-covered : (q : ℕ) → lt_z (headroom book table) (pos q) ≡ false → outstanding_of book table + q ≤ book.size.0
  unfolding headroom
  initial-covered q e = omega (arith, not-below (min book.size.0 (value book.vault)) (outstanding_of book table) q e, min-le_left book.size.0 (value book.vault))

  pub initial-fits : (terms : Terms) → first_of (initial_causes calendar book table terms) ≡ none → Fit calendar (initial_book book terms) (initial_table calendar book table terms)
  unfolding initial_causes initial_book initial_table
  initial-fits terms e =
      let cs = initial_causes calendar book table terms in
      let trade = begun calendar book terms in
      let last = payment_day calendar book.standing.day in
      let trades = in_use book.trades table in
      let room = leb-false (length table) book.trades (all-clear cs e 11) in
      let now : in_use (book.trades + 1) (set table book.trades trade) ≡ trades ++ (trade ∷ []) = take-begun book.trades table trade room in
      record {
        capacity = record { within = rw (length-set table book.trades trade) f.capacity.within; room = rw (length-set table book.trades trade) (omega arith) };
        securities = f.securities;
        cash = f.cash;
        each = rw now (all_append trade_fit trades trade f.each (begun-fits terms e));
        size = record {
          within = f.size.within;
          covers = rw now (omega (arith, outstanding-append trades (trade ∷ []), outstanding-one trade, initial-covered terms.sheets.0 (all-clear cs e 12)));
        };
        postings = f.postings;
        nets = record { today = ltb-false net_limit (nat_abs (net_less book terms)) (all-clear cs e 14); cleared = f.nets.cleared };
        sums = f.sums;
        differing = rw now (differ-append trades trade f.differing (all-clear cs e 10));
        withdrawals = f.withdrawals;
        day = rw now (same-day calendar book.standing.day book.standing.phase book.standing.phase trades (trades ++ (trade ∷ [])) book.trades (book.trades + 1)
            (trading-not-closed book.standing.phase (all-clear cs e 4))
            (λ b. all_append (λ t. leb t.first last) trades trade b (le-leb last last (omega arith))) f.day);
      }

  -- ---- 10 Early

  pub early-fits : (contract : Contract) (count : Sheets) (price : Ticks) → first_of (early_causes calendar book table contract count price) ≡ none
      → Fit calendar (early_book calendar book table contract count price) (early_table book table contract count)
  unfolding early_causes early_book early_table
  early-fits contract count price e =
      let cs = early_causes calendar book table contract count price in
      let trades = in_use book.trades table in
      let l = over-lessens (payment_day calendar book.standing.day) book.trades table (take_off contract count.0 trades) f.capacity.room (length-take_off contract count.0 trades) (take_off-lessens contract count.0 trades) in
      let net = net_with_early calendar book table contract count price in
      let amount = early_amount calendar book table contract count price in
      let n = neither (ltb net_limit (nat_abs net)) (passes amount book.sums.unpaid) (all-clear cs e 14) in
      lessened-fits (early_book calendar book table contract count price) (early_table book table contract count) l refl f.securities f.cash f.postings
      (record { today = ltb-false net_limit (nat_abs net) n.0; cleared = f.nets.cleared })
      (record { unpaid = omega (arith, ltb-false net_limit (unpaid_of book + amount) n.1) })
      f.withdrawals
      (same-day calendar book.standing.day book.standing.phase book.standing.phase trades _ book.trades book.trades
      (trading-not-closed book.standing.phase (all-clear cs e 4)) (fewer-begun _ (omega arith) l.fewer) f.day)

  -- ---- 11 Pay

  pub paid-fits : first_of (pay_causes book) ≡ none → Fit calendar (after_pay (fails book) book) table
  unfolding pay_causes after_pay
  paid-fits e = go (fails book) refl
    where
      day : day_fit calendar book.standing.day Paid (in_use book.trades table) book.trades ≡ true
      day =
          same-day calendar book.standing.day book.standing.phase Paid (in_use book.trades table) (in_use book.trades table) book.trades book.trades
          (trading-not-closed book.standing.phase (all-clear (pay_causes book) e 4)) (λ b. b) f.day

      go : (failing : Bool) → fails book ≡ failing → Fit calendar (after_pay failing book) table
      go true b = lessened-fits (after_pay true book) table (same-lessens (payment_day calendar book.standing.day) book.trades table) refl f.securities f.cash f.postings f.nets f.sums f.withdrawals day
      go false b =
          lessened-fits (after_pay false book) table (same-lessens (payment_day calendar book.standing.day) book.trades table) refl f.securities
          (moved-fits book.nets.cleared.0 book.cash book.vault.guarantee f.cash b) f.postings
          (record { today = f.nets.today; cleared = omega arith }) (record { unpaid = omega (arith, f.sums.unpaid) }) f.withdrawals day

  -- ---- 12 Close

  closed-lessens : {last : ℕ} (left : List Trade) → Fewer last left (in_use book.trades table) → Lessens last book.trades (length (remaining left)) table (closed_table book left table)
  unfolding closed_table
  closed-lessens left fewer =
      let kept = remaining left in
      let less = remaining-lessens fewer in
      let few : length kept ≤ book.trades = omega (arith, fewer-length less, length-take-le book.trades table f.capacity.room) in
      record {
        long = length-packed book.trades kept table f.capacity.room few;
        count = few;
        fewer = rw (take-packed book.trades kept table) less;
      }

  left-trades-fewer : Fewer (payment_day calendar book.standing.day) (left_trades calendar book table) (in_use book.trades table)
  unfolding left_trades
  left-trades-fewer = left-fewer calendar book f.postings (outstanding_matured book table) (in_use book.trades table)

  pub closed-fits : first_of (close_causes calendar book table) ≡ none
      → Fit calendar (closed_book calendar book (left_trades calendar book table) table) (closed_table book (left_trades calendar book table) table)
  unfolding close_causes closed_book
  closed-fits e =
      let left = left_trades calendar book table in
      let lessens = closed-lessens left left-trades-fewer in
      let ev = evening-fits book (claims_at_close calendar book left table) f.securities f.cash in
      let today = ltb net_limit (nat_abs (net_at_close calendar book table)) in
      let cleared = ltb net_limit (nat_abs (cleared_at_close calendar book table)) in
      let amount = matured_amount calendar book table in
      let n = neither (today || cleared) (passes amount book.sums.unpaid) (all-clear (close_causes calendar book table) e 14) in
      lessened-fits (closed_book calendar book left table) (closed_table book left table) lessens refl ev.securities ev.cash f.postings
      (record { today = omega arith; cleared = ltb-false net_limit (nat_abs (cleared_at_close calendar book table)) (neither today cleared n.0).1 })
      (record { unpaid = omega (arith, ltb-false net_limit (unpaid_of book + amount) n.1) })
      (record { count = omega arith; each = λ i h. absurd (omega arith) })
      (same-day calendar book.standing.day book.standing.phase Closed (in_use book.trades table) _ book.trades _
      (closing-not-closed book.standing.phase (is_terminated book.standing.status) (all-clear (close_causes calendar book table) e 4))
      (fewer-begun _ (omega arith) lessens.fewer) f.day)
