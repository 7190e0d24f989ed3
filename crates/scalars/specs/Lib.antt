-- How scalars are set anew, for the contracts; no rule stands here.
pub mod Scalars
