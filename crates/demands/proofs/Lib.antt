-- The demands, proved.
pub mod Refusals
pub mod Outcomes
pub mod Turns
pub mod StopLaws
pub mod RunLists
pub mod Rounds
pub mod Fairness
pub mod AccessLaws
pub mod Ranges
pub mod Services
pub mod Calls
pub mod Sheets
pub mod Steps
