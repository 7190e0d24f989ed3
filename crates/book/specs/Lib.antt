-- The rules' types, for private contracts; no rule stands here.
pub mod Types
