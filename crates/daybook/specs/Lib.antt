-- The program daybook: what it lists.
pub mod Input
