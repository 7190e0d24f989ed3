-- The journal, in document 01's order: the journal's sections, a line of its listing, the whole listing.
pub mod Sections
pub mod Text
pub mod Listing
-- for callers that lend a buffer
pub mod Limits
-- for private contracts
pub mod Buffer
