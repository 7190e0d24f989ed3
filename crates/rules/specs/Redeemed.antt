-- What an event redeems, gross: principal and income of all that it takes off trades. (01, Twelve events; arts. 29, 60, 72)
-- Assumes nothing.
use Rattle.std.specs.Prelude.{ℕ, cond, List}
use Rattle.money.specs.Days.{Calendar}
use Rattle.rules.specs.Book.{Book}
use Rattle.rules.specs.Trades.{Trade}
use Rattle.rules.specs.Entry.{Event, Open, FundIn, FundOut, Size, Rate, Pledge, Freeze, Withdraw, Initial, Early, Pay, Close, Post}
use Rattle.rules.specs.Open.{turns_terminated, fallback_sum}
use Rattle.rules.specs.Early.{early_amount}
use Rattle.rules.specs.Close.{matured_amount}

-- an Open on turning terminated, an Early and a Close redeem; nothing else does
abbrev pub amount_redeemed : Calendar → Book → List Trade → Event → ℕ
amount_redeemed calendar book table Open = cond (turns_terminated book.standing) (fallback_sum calendar book table) 0
amount_redeemed calendar book table (FundIn account amount) = 0
amount_redeemed calendar book table (FundOut account amount) = 0
amount_redeemed calendar book table (Size size) = 0
amount_redeemed calendar book table (Rate kind rate) = 0
amount_redeemed calendar book table (Pledge kind units) = 0
amount_redeemed calendar book table (Freeze kind units) = 0
amount_redeemed calendar book table (Withdraw kind units) = 0
amount_redeemed calendar book table (Initial terms) = 0
amount_redeemed calendar book table (Early contract count price) = early_amount calendar book table contract count price
amount_redeemed calendar book table Pay = 0
amount_redeemed calendar book table Close = matured_amount calendar book table
amount_redeemed calendar book table (Post product posting) = 0
