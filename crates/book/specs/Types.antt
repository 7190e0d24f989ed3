-- The types of the rules, under one name for the contracts and proofs of the calls. They are declared in the crate `rules`.
-- Assumes nothing.
pub use Rattle.rules.specs.declared.book.Book.{Book}
pub use Rattle.rules.specs.declared.trade.Trade.{Trade}
pub use Rattle.rules.specs.Entry.{Entry}
pub use Rattle.rules.specs.declared.answer.Applied.{Applied}
pub use Rattle.rules.specs.Listing.{Ran}
