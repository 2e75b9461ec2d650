-- What an operation on the board says that has no value, and what a read changes.
pub mod CallLaws
pub mod ReadLaws
