-- Document 02, A8, "Judging other replicas' logs": records, what is judged of a log, the log of a run; and what the judge goes by, in closed form.
pub mod Record
pub mod Judge
pub mod Answers
pub mod Log
pub mod ClosedRegisters
