-- The owner's demands. 1: Refusals, Calls. 2: Outcomes, Sheets, Ranges, Services. 3: Fairness, over Grants and Rounds. Operations names what they speak of.
pub mod Lists
pub mod Operations
pub mod Refusals
pub mod Outcomes
pub mod Grants
pub mod Rounds
pub mod Fairness
pub mod Ranges
pub mod Services
pub mod Calls
pub mod Sheets
pub mod Steps
