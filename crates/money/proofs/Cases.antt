-- Worked cases, each computed from the definitions that the promises cite: M1 to M6, the limits and holidays beside them, and dates.
-- Assumes nothing.
use mathlib.Core.Path.{◌≡◌, refl}
use mathlib.Core.List.{List, [], ◌∷◌, map}
use Prim.Native.Nat.{ℕ, ◌+◌}
use lib.ListN.{replicate}
use Rattle.money.specs.Units.{sheets, ticks}
use Rattle.money.specs.Causes.{first_of}
use Rattle.money.specs.Days.{trades, first_trading, at_or_after, next_after, earliest, search_result}
use Rattle.money.specs.Dates.{date, leap, february, month_length, length_after, start_after, exists, in_years, day_of, next_date, date_of, day_answer, date_answer}
use Rattle.money.specs.Money.{principal, income, redemption, initial_amount, redemption_amount}
use Rattle.money.specs.Collateral.{kind_value, kind_worth}

-- what the definitions give, and what the paper says
pub record Case : Type 0 where
  pub gives : ℕ
  pub says : ℕ

abbrev pub ◌gives◌ : ℕ → ℕ → Case
given gives said = record { gives = given; says = said }

infix 10 ◌gives◌
-- days 1, 2, 3, 6 and 7 trade
abbrev week : List ℕ
week = 206 ∷ []

abbrev pub cases : List Case
cases =
    -- M1 to M6
    ((redemption_amount (sheets 100) (ticks 3650) 4).fen.0 gives 1000400)
    ∷ ((redemption_amount (sheets 1) (ticks 1825) 1).fen.0 gives 10001)
    ∷ ((redemption_amount (sheets 1) (ticks 1824) 1).fen.0 gives 10000)
    ∷ ((kind_worth 0 199 0 9000).sheets.0 gives 179)
    ∷ ((kind_worth 0 5 0 9000).sheets.0 + (kind_worth 1 5 0 9000).sheets.0 gives 8)
    ∷ ((kind_worth 32 19999 0 0).sheets.0 gives 1)
    -- principal and income apart; rounded once, not for each sheet
    ∷ ((principal (sheets 100)).0 gives 1000000)
    ∷ ((income (sheets 100) (ticks 3650) 4).0 gives 400)
    ∷ ((income (sheets 2) (ticks 912) 1).0 gives 0)
    ∷ ((income (sheets 4) (ticks 912) 1).0 gives 1)
    -- the limits of an amount, on either side
    ∷ ((initial_amount (sheets 100000000)).fen.0 gives 1000000000000)
    ∷ ((initial_amount (sheets 100000001)).number gives 14)
    ∷ ((initial_amount (sheets 100000001)).fen.0 gives 0)
    ∷ ((redemption_amount (sheets 100000000) (ticks 100000) 38400).fen.0 gives 106205479452055)
    ∷ ((redemption_amount (sheets 100000001) (ticks 100000) 38400).number gives 14)
    ∷ ((redemption_amount (sheets 100000000) (ticks 100001) 38400).number gives 14)
    ∷ ((redemption_amount (sheets 100000000) (ticks 100000) 38401).number gives 14)
    ∷ ((redemption_amount (sheets 100000000) (ticks 100000) 38401).fen.0 gives 0)
    -- a kind's value: frozen units do not count, cash goes by no rate, the smallest number is given
    ∷ ((kind_worth 31 1000000000000 0 20000).sheets.0 gives 2000000000000)
    ∷ ((kind_worth 0 200 50 10000).sheets.0 gives 150)
    ∷ ((kind_worth 32 10000000000000000 0 20001).sheets.0 gives 1000000000000)
    ∷ ((kind_worth 33 1 2 20001).number gives 3)
    ∷ ((kind_worth 0 1 2 20001).number gives 13)
    ∷ ((kind_worth 0 1000000000001 0 20000).number gives 14)
    ∷ ((kind_worth 0 1000000000000 0 20001).number gives 14)
    ∷ ((kind_worth 32 10000000000000001 0 0).number gives 14)
    -- due on a holiday, days 4 and 5, is day 6 and not day 3; day 6 is paid on day 7
    ∷ ((search_result week (at_or_after week 4)).day gives 6)
    ∷ ((search_result week (at_or_after week 3)).day gives 3)
    ∷ ((search_result week (next_after week 3)).day gives 6)
    ∷ ((search_result week (next_after week 6)).day gives 7)
    ∷ ((search_result week (next_after week 7)).number gives 16)
    ∷ ((search_result week (next_after week 7)).day gives 0)
    ∷ ((search_result week (earliest week)).day gives 1)
    ∷ ((search_result [] (earliest [])).number gives 16)
    -- a word of zeros is stepped over
    ∷ ((search_result (206 ∷ 0 ∷ 1 ∷ []) (next_after (206 ∷ 0 ∷ 1 ∷ []) 7)).day gives 64)
    -- 1,200 words are searched, 1,201 are not
    ∷ ((search_result (replicate 1200 1) (at_or_after (replicate 1200 1) 38368)).day gives 38368)
    ∷ ((search_result (replicate 1201 1) (at_or_after (replicate 1201 1) 0)).number gives 1)
    ∷ ((search_result (replicate 1201 0) (at_or_after (replicate 1201 0) 38430)).number gives 1)
    -- February: 4 divides 2004, 100 divides 1900 and 2100 too, 400 divides 2000 and 2400 too
    ∷ (month_length 2003 2 gives 28)
    ∷ (month_length 2004 2 gives 29)
    ∷ (month_length 1900 2 gives 28)
    ∷ (month_length 2000 2 gives 29)
    ∷ (month_length 2100 2 gives 28)
    ∷ (month_length 2400 2 gives 29)
    -- the days of a month before and of a year after all dates; what is no month has none
    ∷ (month_length 1999 12 gives 31)
    ∷ (month_length 2100 11 gives 30)
    ∷ (month_length 2000 0 gives 0)
    ∷ (month_length 2000 13 gives 0)
    -- the first day, the leap day of a year that 400 divides, the ends of a February and of all years
    ∷ ((day_answer (date 2000 1 1)).day gives 0)
    ∷ ((day_answer (date 2000 2 29)).day gives 59)
    ∷ ((day_answer (date 2001 2 28)).day gives 424)
    ∷ ((day_answer (date 2001 3 1)).day gives 425)
    ∷ ((day_answer (date 2026 11 23)).day gives 9823)
    ∷ ((day_answer (date 2099 12 1)).day gives 36494)
    ∷ ((day_answer (date 2099 12 31)).day gives 36524)
    ∷ ((day_answer (date 2099 12 31)).number gives 0)
    -- dates that there are not, or not in these years
    ∷ ((day_answer (date 2001 2 29)).number gives 19)
    ∷ ((day_answer (date 2099 2 29)).number gives 19)
    ∷ ((day_answer (date 2000 4 31)).number gives 19)
    ∷ ((day_answer (date 2000 4 31)).day gives 0)
    ∷ ((day_answer (date 2000 0 1)).number gives 19)
    ∷ ((day_answer (date 2000 13 1)).number gives 19)
    ∷ ((day_answer (date 2000 1 0)).number gives 19)
    ∷ ((day_answer (date 1999 12 31)).number gives 19)
    ∷ ((day_answer (date 2100 1 1)).number gives 19)
    ∷ ((day_answer (date 2100 1 1)).day gives 0)
    ∷ ((day_answer (date 4294967295 1 1)).number gives 19)
    ∷ ((day_answer (date 2000 4294967295 1)).number gives 19)
    ∷ ((day_answer (date 2000 1 4294967295)).number gives 19)
    -- and back
    ∷ ((date_answer 0).date.year gives 2000)
    ∷ ((date_answer 59).date.day gives 29)
    ∷ ((date_answer 60).date.month gives 3)
    ∷ ((date_answer 366).date.year gives 2001)
    ∷ ((date_answer 424).date.day gives 28)
    ∷ ((date_answer 425).date.month gives 3)
    ∷ ((date_answer 36525).number gives 19)
    ∷ ((date_answer 36525).date.year gives 0)
    ∷ []

pub worked-cases : map (λ (c : Case). c.gives) cases ≡ map (λ (c : Case). c.says) cases
unfolding first_of redemption_amount initial_amount redemption principal income kind_worth kind_value search_result at_or_after next_after earliest first_trading trades day_answer exists in_years day_of start_after length_after month_length february leap date_answer date_of next_date
worked-cases = refl
