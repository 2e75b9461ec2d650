-- Laws of records, of the registers that a service steps, and of judging.
pub mod ErrorLaws
pub mod RecordLaws
pub mod NextLaws
pub mod RegisterLaws
pub mod LastLaws
pub mod JudgeLaws
pub mod AnswerLaws
pub mod KeepLaws
