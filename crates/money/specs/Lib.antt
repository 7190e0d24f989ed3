-- Days and money, in the order of document 01, dates beside days.
pub mod Units
pub mod Limits
pub mod Causes
pub mod Days
pub mod Dates
pub mod Money
pub mod Collateral
