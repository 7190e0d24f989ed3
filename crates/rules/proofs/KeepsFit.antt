-- Events on money, size, collateral and postings leave a fit book: 2 to 8 and 13. (01, Twelve events; 02, ask 4)
-- Assumes nothing.
use mathlib.Core.Path.{◌≡◌}
use mathlib.Core.Bool.{false, cond}
use mathlib.Core.List.{List}
use mathlib.Core.Option.{none}
use Prim.Native.Nat.{ℕ, ◌+◌, ◌-◌, ◌≤◌, ◌<◌}
use native.Mathlib.Omega.{arith}
use borrow.Author.Tests.{ltb-false, leb-false, eqb-false}
use lib.Dec.{ltb, eqb}
use lib.ListN.{get_or, set, get_or-replicate}
use Rattle.money.specs.declared.units.Fen.{Fen}
use Rattle.money.specs.declared.units.Sheets.{Sheets}
use Rattle.money.specs.Units.{fen}
use Rattle.money.specs.Limits.{unit_limit, rate_limit, cash_limit, price_limit}
use Rattle.money.specs.Causes.{first_of}
use Rattle.money.specs.Days.{Calendar}
use Rattle.money.specs.Collateral.{cash_kind}
use Rattle.rules.specs.Limits.{size_limit, application_limit, product_limit, ahead_limit}
use Rattle.rules.specs.Book.{Cash, Security, Vault, Posting, Book, no_security, no_posting, no_postings, with_cash, with_vault}
use Rattle.rules.specs.Trades.{Trade}
use Rattle.rules.specs.Vault.{security_at, is_cash, effective_of, frozen_of, outstanding_of}
use Rattle.rules.specs.Fit.{all_cash}
use Rattle.rules.specs.Entry.{Account, Own, Client}
use Rattle.rules.specs.Funds.{fund_in_causes, funded_in, funded_out}
use Rattle.rules.specs.Size.{size_causes, sized}
use Rattle.rules.specs.Rate.{rate_causes, with_rate, rated}
use Rattle.rules.specs.Pledge.{pledge_causes, arrived, cash_arrived, pledged}
use Rattle.rules.specs.Freeze.{freeze_causes, with_frozen, cash_frozen, frozen}
use Rattle.rules.specs.Withdraw.{applied, withdraw_causes, withdrawn}
use Rattle.rules.specs.Post.{post_causes, posted}
use Rattle.rules.proofs.FoldLaws.{by-test, neither, at_set}
use Rattle.rules.proofs.Accepted.{all-clear}
use Rattle.rules.proofs.FitParts.{SecurityFits, SecuritiesFit, CashFits, PostingFits, PostingsFit, Fit}

-- ---- collateral with one security set anew

pub none-fits : SecurityFits no_security
none-fits = record { units = omega arith; rate = omega arith; free = omega arith }

pub none-posted-fits : PostingFits no_posting
none-posted-fits = record { term = omega arith; price = omega arith; fallback = omega arith }

-- what Open leaves posted, and what a fresh book has
pub none-posted : PostingsFit no_postings
none-posted number h = rw (get_or-replicate product_limit number no_posting no_posting h) none-posted-fits

-- the new one fits if it stands among the 32
pub set-fits : (vault : Vault) (kind : ℕ) (security : Security) → SecuritiesFit vault → (kind < 32 → SecurityFits security)
    → (k : ℕ) → k < 32 → SecurityFits (get_or (set vault.securities kind security) k no_security)
set-fits vault kind security f s k h =
    at_set SecurityFits vault.securities kind k security no_security (λ e. s (omega arith)) none-fits (λ _. f k h)

-- the same for any kind: cash is not among them
pub kind-set-fits : (vault : Vault) (kind : ℕ) (security : Security) → SecuritiesFit vault → (is_cash kind ≡ false → kind < 32 → SecurityFits security)
    → (k : ℕ) → k < 32 → SecurityFits (get_or (cond (is_cash kind) vault.securities (set vault.securities kind security)) k no_security)
kind-set-fits vault kind security f s =
    by-test (λ c. (k : ℕ) → k < 32 → SecurityFits (get_or (cond c vault.securities (set vault.securities kind security)) k no_security)) (is_cash kind)
    (λ _. f) (λ c. set-fits vault kind security f (s c))

-- a kind's effective units are within what cash may be
effective-within : (cash : Cash) (vault : Vault) (kind : ℕ) → CashFits cash vault.guarantee → SecuritiesFit vault → kind ≤ 32 → effective_of vault kind ≤ cash_limit
effective-within cash vault kind c f h =
    by-test (λ b. cond b vault.guarantee.effective.0 (security_at vault kind).effective ≤ cash_limit) (is_cash kind)
    (λ _. omega (arith, c.sum)) (λ e. let other = eqb-false kind 32 e in omega (arith, (f kind (omega arith)).units))

module _ (calendar : Calendar) (book : Book) (table : List Trade) (f : Fit calendar book table) where
  -- ---- only cash and collateral change

  with-money : (cash : Cash) (vault : Vault) → CashFits cash vault.guarantee → SecuritiesFit vault → Fit calendar (with_cash cash (with_vault vault book)) table
  with-money cash vault c s = record {
    capacity = f.capacity;
    securities = s;
    cash = c;
    each = f.each;
    size = f.size;
    postings = f.postings;
    nets = f.nets;
    sums = f.sums;
    differing = f.differing;
    withdrawals = f.withdrawals;
    day = f.day;
  }

  pub funded_in-fits : (account : Account) (amount : Fen) → first_of (fund_in_causes book account amount) ≡ none → Fit calendar (funded_in book account amount) table
  unfolding fund_in_causes funded_in
  funded_in-fits account amount e = go account (ltb-false cash_limit (all_cash book.cash book.vault.guarantee + amount.0) (all-clear (fund_in_causes book account amount) e 14))
    where
      go : (account : Account) → all_cash book.cash book.vault.guarantee + amount.0 ≤ cash_limit → Fit calendar (funded_in book account amount) table
      go Own h = with-money _ book.vault (record { sum = omega arith; free = f.cash.free }) f.securities
      go Client h = with-money _ book.vault (record { sum = omega arith; free = f.cash.free }) f.securities

  pub funded_out-fits : (account : Account) (amount : Fen) → Fit calendar (funded_out book account amount) table
  unfolding funded_out
  funded_out-fits Own amount = with-money _ book.vault (record { sum = omega (arith, f.cash.sum); free = f.cash.free }) f.securities
  funded_out-fits Client amount = with-money _ book.vault (record { sum = omega (arith, f.cash.sum); free = f.cash.free }) f.securities

  pub rated-fits : (kind rate : ℕ) → first_of (rate_causes kind rate) ≡ none → Fit calendar (rated book kind rate) table
  unfolding rate_causes rated
  rated-fits kind rate e =
      let h = ltb-false rate_limit rate (all-clear (rate_causes kind rate) e 14) in
      with-money book.cash _ f.cash
      (set-fits book.vault kind (with_rate rate (security_at book.vault kind)) f.securities
      (λ k. record { units = (f.securities kind k).units; rate = h; free = (f.securities kind k).free }))

  pub pledged-fits : (kind units : ℕ) → first_of (pledge_causes book kind units) ≡ none → Fit calendar (pledged book kind units) table
  unfolding pledge_causes pledged
  pledged-fits kind units e =
      let vault = book.vault in
      let own = book.cash.own.0 in
      let security = security_at vault kind in
      let owned = all-clear (pledge_causes book kind units) e 13 in
      let room = all-clear (pledge_causes book kind units) e 14 in
      with-money _ _
      (by-test (λ c. CashFits (record { own = fen (cond c (own - units) own); client = book.cash.client }) (cond c (cash_arrived units vault.guarantee) vault.guarantee)) (is_cash kind)
      (λ c. record { sum = omega (arith, f.cash.sum, ltb-false own units (rw c at owned)); free = f.cash.free }) (λ _. f.cash))
      (kind-set-fits vault kind (arrived units security) f.securities
      (λ c k. record {
        units = omega (arith, ltb-false unit_limit (security.effective + security.arriving + units) (rw c at room));
        rate = (f.securities kind k).rate;
        free = (f.securities kind k).free;
      }))

  pub frozen-fits : (kind units : ℕ) → first_of (freeze_causes book kind units) ≡ none → Fit calendar (frozen book kind units) table
  unfolding freeze_causes frozen
  frozen-fits kind units e =
      let vault = book.vault in
      let held = all-clear (freeze_causes book kind units) e 13 in
      with-money book.cash _
      (by-test (λ c. CashFits book.cash (cond c (cash_frozen units vault.guarantee) vault.guarantee)) (is_cash kind)
      (λ c. record { sum = f.cash.sum; free = ltb-false vault.guarantee.effective.0 units (rw c at held) }) (λ _. f.cash))
      (kind-set-fits vault kind (with_frozen units (security_at vault kind)) f.securities
      (λ c k. record {
        units = (f.securities kind k).units;
        rate = (f.securities kind k).rate;
        free = ltb-false (security_at vault kind).effective units (rw c at held);
      }))

  -- ---- only the size, and only the applications change

  pub sized-fits : (size : Sheets) → first_of (size_causes book table size) ≡ none → Fit calendar (sized book size) table
  unfolding size_causes sized
  sized-fits size e = record {
    capacity = f.capacity;
    securities = f.securities;
    cash = f.cash;
    each = f.each;
    size = record {
      within = ltb-false size_limit size.0 (all-clear (size_causes book table size) e 14);
      covers = ltb-false size.0 (outstanding_of book table) (all-clear (size_causes book table size) e 15);
    };
    postings = f.postings;
    nets = f.nets;
    sums = f.sums;
    differing = f.differing;
    withdrawals = f.withdrawals;
    day = f.day;
  }

  pub withdrawn-fits : (kind units : ℕ) → first_of (withdraw_causes book kind units) ≡ none → Fit calendar (withdrawn book kind units) table
  unfolding withdraw_causes withdrawn
  withdrawn-fits kind units e =
      let known = ltb-false cash_kind kind (all-clear (withdraw_causes book kind units) e 3) in
      let held = ltb-false (effective_of book.vault kind) (units + frozen_of book.vault kind + applied book.withdrawals kind) (all-clear (withdraw_causes book kind units) e 13) in
      let room = leb-false application_limit book.withdrawals.count (all-clear (withdraw_causes book kind units) e 17) in
      let within : units ≤ cash_limit = omega (arith, effective-within book.cash book.vault kind f.cash f.securities known) in
      record {
        capacity = f.capacity;
        securities = f.securities;
        cash = f.cash;
        each = f.each;
        size = f.size;
        postings = f.postings;
        nets = f.nets;
        sums = f.sums;
        differing = f.differing;
        withdrawals = record {
          count = omega arith;
          each = λ i h. record {
            known = at_set (λ n. n ≤ 32) book.withdrawals.kinds book.withdrawals.count i kind 0 (λ _. known) (omega arith) (λ other. (f.withdrawals.each i (omega arith)).known);
            within = at_set (λ n. n ≤ cash_limit) book.withdrawals.units book.withdrawals.count i units 0 (λ _. within) (omega arith) (λ other. (f.withdrawals.each i (omega arith)).within);
          };
        };
        day = f.day;
      }

  -- ---- only the postings change

  pub posted-fits : (product : ℕ) (posting : Posting) → first_of (post_causes book product posting) ≡ none → Fit calendar (posted book product posting) table
  unfolding post_causes posted
  posted-fits product posting e =
      let cs = post_causes book product posting in
      let prices = neither (ltb price_limit posting.price.0) (ltb price_limit posting.fallback.0) (all-clear cs e 8) in
      let days = neither (eqb posting.term 0) (ltb ahead_limit posting.term) (all-clear cs e 9) in
      let new : PostingFits posting = record {
        term = ltb-false ahead_limit posting.term days.1;
        price = ltb-false price_limit posting.price.0 prices.0;
        fallback = ltb-false price_limit posting.fallback.0 prices.1;
      } in
      record {
        capacity = f.capacity;
        securities = f.securities;
        cash = f.cash;
        each = f.each;
        size = f.size;
        postings = λ number h. at_set PostingFits book.postings product number posting no_posting (λ _. new) none-posted-fits (λ _. f.postings number h);
        nets = f.nets;
        sums = f.sums;
        differing = f.differing;
        withdrawals = f.withdrawals;
        day = f.day;
      }
