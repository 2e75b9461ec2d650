-- The commands on the board, from the protocol's page.
pub mod Answers
pub mod Control
pub mod Sheets
pub mod Services
pub mod Commands
