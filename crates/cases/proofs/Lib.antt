-- The laws that the proofs of journal.rt share.
pub mod JournalLaws
-- The events of structs.rt, computed.
pub mod LedgerLaws
