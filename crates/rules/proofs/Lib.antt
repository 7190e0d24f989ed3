-- The theorems about the rules, and the laws of their definitions.

-- laws of folds, of the table and of signed sums
pub mod FoldLaws
pub mod TradeLaws
pub mod Signed
-- the number given is the first in order that applies
pub mod OrderLaws
pub mod Answers
-- the status is the one given before
pub mod StatusAsBefore
-- a fit book stays fit
pub mod FitParts
pub mod TableFit
pub mod DayFit
pub mod KeepsFit
pub mod EveningFit
pub mod NextTermLaws
pub mod KeepsFitDay
pub mod StaysFit
-- next terms, trade by trade, for loops over the table
pub mod NextTermTurns
-- unpaid redemptions: how they grow and are paid, what they hold back, and what does not see them
pub mod UnpaidLaws
pub mod EveningValue
pub mod UnpaidUnseen
-- a Close at which a term starts is not short
pub mod NextTermShort
-- an entry looks at the slots in use and the next one
pub mod FrontLaws
-- demand 3 over every list of entries
pub mod TallyRows
pub mod TallyStarts
pub mod Accepted
pub mod CashKept
pub mod Agree
pub mod EventsAgree
pub mod Demand3Proof
pub mod Demand3OfRuns
-- the worked cases
pub mod Opened
pub mod Cases
pub mod Slips
pub mod UnpaidCases
pub mod NextTermCases
pub mod Falls
-- laws of the decoder
pub mod Bytes
pub mod Unused
pub mod Decoding
