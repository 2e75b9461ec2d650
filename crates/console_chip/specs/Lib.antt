-- The answers and the commands on the controller, from the protocol's page.
pub mod Answers
pub mod Control
pub mod Sheets
