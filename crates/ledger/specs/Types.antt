-- The types of the rules, under one name for the core's contracts and proofs. They are declared in the crate `rules`.
-- Assumes nothing.
pub use Rattle.rules.specs.declared.book.Nets.{Nets}
pub use Rattle.rules.specs.declared.book.Unpaid.{Unpaid}
pub use Rattle.rules.specs.declared.book.Cash.{Cash}
pub use Rattle.rules.specs.declared.book.Security.{Security}
pub use Rattle.rules.specs.declared.book.Posting.{Posting}
pub use Rattle.rules.specs.declared.book.Guarantee.{Guarantee}
pub use Rattle.rules.specs.declared.book.Vault.{Vault}
pub use Rattle.rules.specs.Book.{Day}
pub use Rattle.rules.specs.declared.book.Phase.{Phase}
pub use Rattle.rules.specs.declared.book.Phase.TheVariants.{Closed, Trading, Paid}
pub use Rattle.rules.specs.declared.book.Standing.{Standing}
pub use Rattle.rules.specs.declared.book.Withdrawals.{Withdrawals}
pub use Rattle.rules.specs.declared.book.Book.{Book}
pub use Rattle.rules.specs.declared.trade.Contract.{Contract}
pub use Rattle.rules.specs.declared.trade.Trade.{Trade}
pub use Rattle.rules.specs.declared.trade.Terms.{Terms}
pub use Rattle.rules.specs.declared.event.Account.{Account}
pub use Rattle.rules.specs.declared.event.Account.TheVariants.{Own, Client}
pub use Rattle.rules.specs.declared.event.Event.{Event}
pub use Rattle.rules.specs.declared.event.Event.TheVariants.{Open, FundIn, FundOut, Size, Rate, Pledge, Freeze, Withdraw, Initial, Early, Pay, Close, Post}
pub use Rattle.rules.specs.Entry.{Entry}
pub use Rattle.std.specs.Prelude.{Some, None}
pub use Rattle.rules.specs.declared.answer.Applied.{Applied}
pub use Rattle.rules.specs.Listing.{Ran}
pub use Rattle.rules.specs.declared.answer.Cover.{Cover}
