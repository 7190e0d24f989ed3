-- When a book is fit: a list of named tests. (01, The book, "A book is fit if")
-- Assumes nothing.
use Rattle.std.specs.Prelude.{ℕ, ◌+◌, Bool, true, ◌&&◌, List, [], ◌∷◌, leb, eqb, ℤ, nat_abs, length, get_or}
use Rattle.std.proofs.Math.Option.{some}
use Rattle.money.specs.Collateral.{cash_kind}
use Rattle.money.specs.Limits.{unit_limit, rate_limit, cash_limit, trade_limit, price_limit}
use Rattle.money.specs.Days.{Calendar, trades}
use Rattle.rules.specs.Folds.{all_below, every}
use Rattle.rules.specs.Limits.{capacity_limit, size_limit, net_limit, application_limit, product_limit, ahead_limit}
use Rattle.rules.specs.Book.{Nets, Sums, Cash, Security, Guarantee, Vault, Day, None, Some, Phase, Withdrawals, Posting, Book, is_closed, no_posting}
use Rattle.rules.specs.Unpaid.{unpaid_sum}
use Rattle.rules.specs.Days.{followed, payment_day}
use Rattle.rules.specs.Trades.{Trade, in_use, differ}
use Rattle.rules.specs.Vault.{security_at, outstanding_of}

-- "capacity (the lent table's length) 4,096, with no more trades than capacity"
unfoldable pub capacity_fit : ℕ → List Trade → Bool
capacity_fit count table = leb (length table) capacity_limit && leb count (length table)

-- "10^12 units of a security, effective and arriving together; rate 20,000", "frozen is at most effective"
abbrev pub security_fit : Security → Bool
security_fit security =
    every
    (leb (security.effective + security.arriving) unit_limit
    ∷ leb security.rate rate_limit
    ∷ leb security.frozen security.effective
    ∷ [])

unfoldable pub securities_fit : Vault → Bool
securities_fit vault = all_below 32 (λ kind. security_fit (security_at vault kind))

-- own, client and guarantee cash together, arriving included
abbrev pub all_cash : Cash → Guarantee → ℕ
all_cash cash guarantee = cash.own.0 + cash.client.0 + guarantee.effective.0 + guarantee.arriving.0

-- "10^16 fen in own, client and guarantee cash together", "frozen is at most effective"
unfoldable pub cash_fit : Cash → Guarantee → Bool
cash_fit cash guarantee = leb (all_cash cash guarantee) cash_limit && leb guarantee.frozen.0 guarantee.effective.0

-- "a trade 10^8 sheets; price 100,000"; "A book with a product … out of range is unfit." (02, ask 4)
abbrev pub trade_fit : Trade → Bool
trade_fit trade =
    every
    (leb trade.sheets.0 trade_limit
    ∷ leb trade.price.0 price_limit
    ∷ leb trade.fallback.0 price_limit
    ∷ leb trade.product product_limit
    ∷ [])

unfoldable pub all_trades : (Trade → Bool) → List Trade → Bool
all_trades test [] = true
all_trades test (trade ∷ trades) = test trade && all_trades test trades

-- "S 10^10", "O is at most S"
unfoldable pub size_fit : (size outstanding : ℕ) → Bool
size_fit size outstanding = leb size size_limit && leb outstanding size

-- "A book with a … posting out of range is unfit." (02, ask 4)
abbrev pub posting_fit : Posting → Bool
posting_fit posting =
    every (leb posting.term ahead_limit ∷ leb posting.price.0 price_limit ∷ leb posting.fallback.0 price_limit ∷ [])

unfoldable pub postings_fit : List Posting → Bool
postings_fit postings = all_below product_limit (λ number. posting_fit (get_or postings number no_posting))

-- "either net 4×10^18 up or down"
abbrev pub net_fit : ℤ → Bool
net_fit net = leb (nat_abs net) net_limit

unfoldable pub nets_fit : Nets → Bool
nets_fit nets = net_fit nets.today.0 && net_fit nets.cleared.0

-- "U has the limit of a net": "a book with U beyond it is unfit" (02, ask 2)
unfoldable pub sums_fit : Sums → Bool
sums_fit sums = leb (unpaid_sum sums.unpaid) net_limit

-- "applications name kinds to 32 and at most 10^16 units"
abbrev pub application_fit : (kind units : ℕ) → Bool
application_fit kind units = leb kind cash_kind && leb units cash_limit

unfoldable pub withdrawals_fit : Withdrawals → Bool
withdrawals_fit withdrawals =
    leb withdrawals.count application_limit
    && all_below withdrawals.count (λ i. application_fit (get_or withdrawals.kinds i 0) (get_or withdrawals.units i 0))

-- "a book with no day is Closed with an empty table"
abbrev pub unopened_fit : Phase → (count : ℕ) → Bool
unopened_fit phase count = is_closed phase && eqb count 0

-- "the day, if there is one, trades and another follows, no first payment day is past today's payment day"
abbrev pub opened_fit : Calendar → (today : ℕ) → List Trade → Bool
opened_fit calendar today in_use =
    every
    (trades calendar today
    ∷ followed calendar (some today)
    ∷ all_trades (λ trade. leb trade.first (payment_day calendar (Some today))) in_use
    ∷ [])

abbrev pub day_fit : Calendar → Day → Phase → List Trade → (count : ℕ) → Bool
day_fit calendar None phase in_use count = unopened_fit phase count
day_fit calendar (Some day) phase in_use count = opened_fit calendar day in_use

unfoldable pub fit : Calendar → Book → List Trade → Bool
fit calendar book table =
    every
    (capacity_fit book.trades table
    ∷ securities_fit book.vault
    ∷ cash_fit book.cash book.vault.guarantee
    ∷ all_trades trade_fit (in_use book.trades table)
    ∷ size_fit book.size.0 (outstanding_of book table)
    ∷ postings_fit book.postings
    ∷ nets_fit book.nets
    ∷ sums_fit book.sums
    ∷ differ (in_use book.trades table)
    ∷ withdrawals_fit book.withdrawals
    ∷ day_fit calendar book.standing.day book.standing.phase (in_use book.trades table) book.trades
    ∷ [])
