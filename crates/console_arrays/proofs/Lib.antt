-- Laws about the definitions of specs/.
pub mod ArrayLaws
pub mod ServiceLaws
pub mod JudgingLaws
