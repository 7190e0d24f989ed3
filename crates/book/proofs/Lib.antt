-- The laws that the book's proofs share.

-- trades that are copied one after another
pub mod TableLaws
