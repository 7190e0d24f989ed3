-- What callers cite: why a call is refused, the search's two directions, the bounds of results, and that dates and days match. The rest serves this crate's own proofs.
pub mod Refusals
pub mod Smallest
pub mod Digits
pub mod Scan
pub mod Words
pub mod Least
pub mod Bounds
pub mod TwoTests
pub mod MonthLaws
pub mod DateLaws
pub mod FirstTry
pub mod DateAnswers
pub mod Answers
pub mod Cases
