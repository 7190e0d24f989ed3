-- What the proofs of the journal's functions share.
pub mod SectionLaws
pub mod WordLaws
pub mod TextLaws
pub mod LineLaws
pub mod ListingLaws
-- document 01's journal, computed
pub mod Cases
-- what callers cite
pub mod Bounds
