-- Headroom and O of any book, as a call answers them. (01, Collateral and headroom; Turned-down events)
-- Assumes nothing.
use Rattle.std.specs.Prelude.{cond, List, pos, Result, Ok, Err}
use Rattle.money.specs.declared.refusal.Refusal.{Refusal}
use Rattle.money.specs.Causes.{refusal_number}
use Rattle.money.specs.Units.{sheets, signed_sheets}
use Rattle.money.specs.Days.{Calendar}
use Rattle.rules.specs.Book.{Book}
use Rattle.rules.specs.declared.answer.Cover.{Cover}
use Rattle.rules.specs.declared.answer.Covered.{Covered}
use Rattle.rules.specs.Trades.{Trade}
use Rattle.rules.specs.Vault.{headroom, outstanding_of}
use Rattle.rules.specs.Step.{unfit}

abbrev pub cover_told : Result Covered Refusal → Cover
cover_told (Ok covered) = record { number = 0; headroom = covered.headroom; outstanding = covered.outstanding }
cover_told (Err refusal) = record { number = refusal_number refusal; headroom = signed_sheets (pos 0); outstanding = sheets 0 }

abbrev pub cover_counted : Book → List Trade → Cover
cover_counted book table = record { number = 0; headroom = signed_sheets (headroom book table); outstanding = sheets (outstanding_of book table) }

-- "book not fit, or calendar above 1,200 words" is 1, beside results of 0
abbrev pub cover_refused : Cover
cover_refused = record { number = 1; headroom = signed_sheets (pos 0); outstanding = sheets 0 }

unfoldable pub cover_of : Calendar → Book → List Trade → Cover
cover_of calendar book table = cond (unfit calendar book table) cover_refused (cover_counted book table)
