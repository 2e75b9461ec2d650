-- Laws of calls.
pub mod CallLaws
