-- Document 02, A9, "The whole 7009 board", in its order: the two chips, the bus between them, refusals, and what each operation gives.
pub mod Chips
pub mod Bus
pub mod Ranges
pub mod Refusals
pub mod Answers
pub mod Needs
pub mod Runs
pub mod Round
pub mod RoundAnswers
pub mod Sheets
