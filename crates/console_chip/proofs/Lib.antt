-- Laws about the definitions of specs/.
pub mod AnswerLaws
pub mod ControlLaws
pub mod SheetLaws
