-- The owner's worked cases, and all that he asked for.
pub mod Cases
pub mod Owner
