-- The laws that the core's proofs share, and those that the calls above it cite.

-- laws for the code: the core's table
pub mod FlatLaws
pub mod TableChains
pub mod StoreLaws
pub mod PlaceLaws
pub mod ChainLaws
pub mod RedemptionLaws
pub mod StartLaws
pub mod PackingLaws
-- laws for the code: the core's book, the vault and the evening
pub mod UpToLaws
pub mod KindLaws
pub mod HeldLaws
pub mod PostingLaws
pub mod HeldFit
pub mod RowLaws
pub mod SplitLaws
pub mod SumLaws
pub mod RangeLaws
pub mod VaultLaws
pub mod EveningLaws
-- laws for the code: nets, days and refusals
pub mod NetLaws
pub mod PayLaws
pub mod DayLaws
pub mod Refusing
pub mod SummaryLaws
pub mod FitFacts
pub mod Fitting
pub mod ContractLaws
pub mod EarlyLaws
pub mod OpenLaws
pub mod CloseLaws
pub mod InitialLaws
pub mod StepLaws
pub mod Column
pub mod Groups
-- laws for the run of encoded events
pub mod CoverLaws
pub mod FigureLaws
pub mod LineLaws
pub mod RunLaws
pub mod ListingLaws
pub mod LentLaws
pub mod WholeLaws
-- demand 3 of what the calls leave
pub mod Demand3OfRuns
