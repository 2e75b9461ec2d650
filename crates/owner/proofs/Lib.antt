-- The cases computed, and the one theorem.
pub mod Cases
pub mod Owner
