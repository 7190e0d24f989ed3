-- A fit book's parts as facts, a field for each group of `fit`, there and back. (01, The book, "A book is fit if")
-- Assumes nothing.
use mathlib.Core.Path.{◌≡◌}
use mathlib.Core.Bool.{Bool, true}
use mathlib.Core.List.{List, [], ◌∷◌}
use Prim.Native.Nat.{ℕ, ◌+◌, ◌≤◌, ◌<◌}
use borrow.Author.Tests.{leb-true, le-leb}
use lib.Dec.{leb}
use lib.IntN.{nat_abs}
use lib.ListN.{length, get_or}
use Rattle.money.specs.Limits.{unit_limit, rate_limit, cash_limit, price_limit}
use Rattle.money.specs.Days.{Calendar}
use Rattle.rules.specs.Folds.{all_below}
use Rattle.rules.specs.Limits.{capacity_limit, size_limit, net_limit, application_limit, product_limit, ahead_limit}
use Rattle.rules.specs.Book.{Nets, Sums, Cash, Security, Guarantee, Vault, Withdrawals, Posting, Book, no_posting}
use Rattle.rules.specs.Unpaid.{unpaid_sum}
use Rattle.rules.specs.Trades.{Trade, in_use, differ}
use Rattle.rules.specs.Vault.{security_at, outstanding_of}
use Rattle.rules.specs.Fit.{capacity_fit, security_fit, securities_fit, all_cash, cash_fit, trade_fit, all_trades, size_fit, posting_fit, postings_fit, net_fit, nets_fit, sums_fit, application_fit, withdrawals_fit, day_fit, fit}
use Rattle.money.proofs.TwoTests.{both, both_of}
use Rattle.rules.proofs.FoldLaws.{every_holds, every_of, all-at, all_of}

-- ---- the groups

pub record CapacityFits (count : ℕ) (table : List Trade) : Type 0 where
  pub within : length table ≤ capacity_limit
  pub room : count ≤ length table

pub record SecurityFits (security : Security) : Type 0 where
  pub units : security.effective + security.arriving ≤ unit_limit
  pub rate : security.rate ≤ rate_limit
  pub free : security.frozen ≤ security.effective

abbrev pub SecuritiesFit : Vault → Type 0
SecuritiesFit vault = (kind : ℕ) → kind < 32 → SecurityFits (security_at vault kind)

pub record CashFits (cash : Cash) (guarantee : Guarantee) : Type 0 where
  pub sum : all_cash cash guarantee ≤ cash_limit
  pub free : guarantee.frozen.0 ≤ guarantee.effective.0

pub record SizeFits (size outstanding : ℕ) : Type 0 where
  pub within : size ≤ size_limit
  pub covers : outstanding ≤ size

pub record PostingFits (posting : Posting) : Type 0 where
  pub term : posting.term ≤ ahead_limit
  pub price : posting.price.0 ≤ price_limit
  pub fallback : posting.fallback.0 ≤ price_limit

abbrev pub PostingsFit : List Posting → Type 0
PostingsFit postings = (number : ℕ) → number < product_limit → PostingFits (get_or postings number no_posting)

pub record NetsFit (nets : Nets) : Type 0 where
  pub today : nat_abs nets.today.0 ≤ net_limit
  pub cleared : nat_abs nets.cleared.0 ≤ net_limit

pub record SumsFit (sums : Sums) : Type 0 where
  pub unpaid : unpaid_sum sums.unpaid ≤ net_limit

pub record ApplicationFits (kind units : ℕ) : Type 0 where
  pub known : kind ≤ 32
  pub within : units ≤ cash_limit

pub record WithdrawalsFit (withdrawals : Withdrawals) : Type 0 where
  pub count : withdrawals.count ≤ application_limit
  pub each : (i : ℕ) → i < withdrawals.count → ApplicationFits (get_or withdrawals.kinds i 0) (get_or withdrawals.units i 0)

-- ---- the book

pub record Fit (calendar : Calendar) (book : Book) (table : List Trade) : Type 0 where
  pub capacity : CapacityFits book.trades table
  pub securities : SecuritiesFit book.vault
  pub cash : CashFits book.cash book.vault.guarantee
  pub each : all_trades trade_fit (in_use book.trades table) ≡ true
  pub size : SizeFits book.size.0 (outstanding_of book table)
  pub postings : PostingsFit book.postings
  pub nets : NetsFit book.nets
  pub sums : SumsFit book.sums
  pub differing : differ (in_use book.trades table) ≡ true
  pub withdrawals : WithdrawalsFit book.withdrawals
  pub day : day_fit calendar book.standing.day book.standing.phase (in_use book.trades table) book.trades ≡ true

-- ---- each group, there and back

pub capacity-fits : (count : ℕ) (table : List Trade) → capacity_fit count table ≡ true → CapacityFits count table
unfolding capacity_fit
capacity-fits count table e =
    let b = both (leb (length table) capacity_limit) (leb count (length table)) e in
    record { within = leb-true (length table) capacity_limit b.0; room = leb-true count (length table) b.1 }

pub fits-capacity : (count : ℕ) (table : List Trade) → CapacityFits count table → capacity_fit count table ≡ true
unfolding capacity_fit
fits-capacity count table f =
    both_of (leb (length table) capacity_limit) (leb count (length table)) (le-leb (length table) capacity_limit f.within) (le-leb count (length table) f.room)

abbrev security_tests : Security → List Bool
security_tests security = leb (security.effective + security.arriving) unit_limit ∷ leb security.rate rate_limit ∷ leb security.frozen security.effective ∷ []

pub security-fits : (s : Security) → security_fit s ≡ true → SecurityFits s
security-fits s e =
    let h = every_holds (security_tests s) e in
    record { units = leb-true (s.effective + s.arriving) unit_limit h.0; rate = leb-true s.rate rate_limit h.1.0; free = leb-true s.frozen s.effective h.1.1.0 }

pub fits-security : (s : Security) → SecurityFits s → security_fit s ≡ true
fits-security s f =
    every_of (security_tests s)
    (le-leb (s.effective + s.arriving) unit_limit f.units, (le-leb s.rate rate_limit f.rate, (le-leb s.frozen s.effective f.free, tt)))

pub securities-fit : (vault : Vault) → securities_fit vault ≡ true → SecuritiesFit vault
unfolding securities_fit
securities-fit vault e kind h = security-fits (security_at vault kind) (all-at 32 (λ kind. security_fit (security_at vault kind)) e kind h)

pub fit-securities : (vault : Vault) → SecuritiesFit vault → securities_fit vault ≡ true
unfolding securities_fit
fit-securities vault f = all_of 32 (λ kind. security_fit (security_at vault kind)) (λ kind h. fits-security (security_at vault kind) (f kind h))

pub cash-fits : (cash : Cash) (guarantee : Guarantee) → cash_fit cash guarantee ≡ true → CashFits cash guarantee
unfolding cash_fit
cash-fits cash guarantee e =
    let b = both (leb (all_cash cash guarantee) cash_limit) (leb guarantee.frozen.0 guarantee.effective.0) e in
    record { sum = leb-true (all_cash cash guarantee) cash_limit b.0; free = leb-true guarantee.frozen.0 guarantee.effective.0 b.1 }

pub fits-cash : (cash : Cash) (guarantee : Guarantee) → CashFits cash guarantee → cash_fit cash guarantee ≡ true
unfolding cash_fit
fits-cash cash guarantee f =
    both_of (leb (all_cash cash guarantee) cash_limit) (leb guarantee.frozen.0 guarantee.effective.0)
    (le-leb (all_cash cash guarantee) cash_limit f.sum) (le-leb guarantee.frozen.0 guarantee.effective.0 f.free)

pub size_fits : (size outstanding : ℕ) → size_fit size outstanding ≡ true → SizeFits size outstanding
unfolding size_fit
size_fits size outstanding e =
    let b = both (leb size size_limit) (leb outstanding size) e in
    record { within = leb-true size size_limit b.0; covers = leb-true outstanding size b.1 }

pub fits-size : (size outstanding : ℕ) → SizeFits size outstanding → size_fit size outstanding ≡ true
unfolding size_fit
fits-size size outstanding f = both_of (leb size size_limit) (leb outstanding size) (le-leb size size_limit f.within) (le-leb outstanding size f.covers)

abbrev posting_tests : Posting → List Bool
posting_tests p = leb p.term ahead_limit ∷ leb p.price.0 price_limit ∷ leb p.fallback.0 price_limit ∷ []

posting-fits : (p : Posting) → posting_fit p ≡ true → PostingFits p
posting-fits p e =
    let h = every_holds (posting_tests p) e in
    record { term = leb-true p.term ahead_limit h.0; price = leb-true p.price.0 price_limit h.1.0; fallback = leb-true p.fallback.0 price_limit h.1.1.0 }

fits-posting : (p : Posting) → PostingFits p → posting_fit p ≡ true
fits-posting p f =
    every_of (posting_tests p)
    (le-leb p.term ahead_limit f.term, (le-leb p.price.0 price_limit f.price, (le-leb p.fallback.0 price_limit f.fallback, tt)))

pub postings-fit : (postings : List Posting) → postings_fit postings ≡ true → PostingsFit postings
unfolding postings_fit
postings-fit postings e number h =
    posting-fits (get_or postings number no_posting) (all-at product_limit (λ number. posting_fit (get_or postings number no_posting)) e number h)

pub fit-postings : (postings : List Posting) → PostingsFit postings → postings_fit postings ≡ true
unfolding postings_fit
fit-postings postings f =
    all_of product_limit (λ number. posting_fit (get_or postings number no_posting)) (λ number h. fits-posting (get_or postings number no_posting) (f number h))

pub nets-fit : (nets : Nets) → nets_fit nets ≡ true → NetsFit nets
unfolding nets_fit
nets-fit nets e =
    let b = both (net_fit nets.today.0) (net_fit nets.cleared.0) e in
    record { today = leb-true (nat_abs nets.today.0) net_limit b.0; cleared = leb-true (nat_abs nets.cleared.0) net_limit b.1 }

pub fit-nets : (nets : Nets) → NetsFit nets → nets_fit nets ≡ true
unfolding nets_fit
fit-nets nets f =
    both_of (net_fit nets.today.0) (net_fit nets.cleared.0) (le-leb (nat_abs nets.today.0) net_limit f.today) (le-leb (nat_abs nets.cleared.0) net_limit f.cleared)

pub sums-fit : (sums : Sums) → sums_fit sums ≡ true → SumsFit sums
unfolding sums_fit
sums-fit sums e = record { unpaid = leb-true (unpaid_sum sums.unpaid) net_limit e }

pub fit-sums : (sums : Sums) → SumsFit sums → sums_fit sums ≡ true
unfolding sums_fit
fit-sums sums f = le-leb (unpaid_sum sums.unpaid) net_limit f.unpaid

application-fits : (kind units : ℕ) → application_fit kind units ≡ true → ApplicationFits kind units
application-fits kind units e =
    let b = both (leb kind 32) (leb units cash_limit) e in
    record { known = leb-true kind 32 b.0; within = leb-true units cash_limit b.1 }

fits-application : (kind units : ℕ) → ApplicationFits kind units → application_fit kind units ≡ true
fits-application kind units f = both_of (leb kind 32) (leb units cash_limit) (le-leb kind 32 f.known) (le-leb units cash_limit f.within)

-- the test of the application at a place
abbrev application_at : Withdrawals → ℕ → Bool
application_at w i = application_fit (get_or w.kinds i 0) (get_or w.units i 0)

pub withdrawals-fit : (w : Withdrawals) → withdrawals_fit w ≡ true → WithdrawalsFit w
unfolding withdrawals_fit
withdrawals-fit w e =
    let b = both (leb w.count application_limit) (all_below w.count (application_at w)) e in
    record {
      count = leb-true w.count application_limit b.0;
      each = λ i h. application-fits (get_or w.kinds i 0) (get_or w.units i 0) (all-at w.count (application_at w) b.1 i h);
    }

pub fit-withdrawals : (w : Withdrawals) → WithdrawalsFit w → withdrawals_fit w ≡ true
unfolding withdrawals_fit
fit-withdrawals w f =
    both_of (leb w.count application_limit) (all_below w.count (application_at w)) (le-leb w.count application_limit f.count)
    (all_of w.count (application_at w) (λ i h. fits-application (get_or w.kinds i 0) (get_or w.units i 0) (f.each i h)))

-- ---- the book, there and back

module _ (calendar : Calendar) (book : Book) (table : List Trade) where
  pub fit_parts : fit calendar book table ≡ true → Fit calendar book table
  unfolding fit
  fit_parts e =
      let h = every_holds _ e in
      record {
        capacity = capacity-fits book.trades table h.0;
        securities = securities-fit book.vault h.1.0;
        cash = cash-fits book.cash book.vault.guarantee h.1.1.0;
        each = h.1.1.1.0;
        size = size_fits book.size.0 (outstanding_of book table) h.1.1.1.1.0;
        postings = postings-fit book.postings h.1.1.1.1.1.0;
        nets = nets-fit book.nets h.1.1.1.1.1.1.0;
        sums = sums-fit book.sums h.1.1.1.1.1.1.1.0;
        differing = h.1.1.1.1.1.1.1.1.0;
        withdrawals = withdrawals-fit book.withdrawals h.1.1.1.1.1.1.1.1.1.0;
        day = h.1.1.1.1.1.1.1.1.1.1.0;
      }

  pub parts-fit : Fit calendar book table → fit calendar book table ≡ true
  unfolding fit
  parts-fit f =
      every_of _ (
        fits-capacity book.trades table f.capacity,
        (
          fit-securities book.vault f.securities,
          (
            fits-cash book.cash book.vault.guarantee f.cash,
            (
              f.each,
              (
                fits-size book.size.0 (outstanding_of book table) f.size,
                (
                  fit-postings book.postings f.postings,
                  (
                    fit-nets book.nets f.nets,
                    (
                      fit-sums book.sums f.sums,
                      (
                        f.differing,
                        (fit-withdrawals book.withdrawals f.withdrawals, (f.day, tt)),
                      ),
                    ),
                  ),
                ),
              ),
            ),
          ),
        ),
      )
