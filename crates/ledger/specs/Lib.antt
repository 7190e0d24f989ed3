-- How the core names and lays out its data, and what its calls give; no rule stands here.
pub mod Types
pub mod Kind
pub mod Flat
pub mod Redemption
pub mod NextTerm
pub mod Figures
pub mod Chains
pub mod Lent
