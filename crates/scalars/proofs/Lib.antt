-- The laws of U's limit.
pub mod UnpaidLaws
