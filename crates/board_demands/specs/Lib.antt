-- Document 02, A9: what the owner demanded, read for the pair.
pub mod Operations
pub mod Refusals
pub mod Calls
pub mod Ranges
pub mod Grants
pub mod Fairness
pub mod Rounds
pub mod Alone
pub mod Throughout
pub mod Cases
pub mod Outcomes
pub mod Board
pub mod Further
