-- The limits that days and money know, each number once. (01, The book, "Limits"; Turned-down events)
-- Assumes nothing.
use Rattle.std.specs.Prelude.{ℕ, ◌^◌}

-- "at most 1,200 words of 32 bits" (01, Days)
abbrev pub calendar_limit : ℕ
calendar_limit = 1200

-- "10^12 units of a security"
abbrev pub unit_limit : ℕ
unit_limit = 10 ^ 12

-- "rate 20,000"
abbrev pub rate_limit : ℕ
rate_limit = 20000

-- "10^16 fen in own, client and guarantee cash together"
abbrev pub cash_limit : ℕ
cash_limit = 10 ^ 16

-- "a trade 10^8 sheets"
abbrev pub trade_limit : ℕ
trade_limit = 10 ^ 8

-- "price 100,000"
abbrev pub price_limit : ℕ
price_limit = 100000

-- "over more than 38,400 days": the days of a calendar of 1,200 words
abbrev pub term_limit : ℕ
term_limit = 38400

-- "for 2000 to 2099" (02, ask 1)
abbrev pub first_year : ℕ
first_year = 2000

abbrev pub last_year : ℕ
last_year = 2099

-- "the starts of all 1,200 months" (02, ask 1)
abbrev pub month_count : ℕ
month_count = 1200

-- "The days above 36,524 have no date." (02, ask 1)
abbrev pub last_day : ℕ
last_day = 36524
