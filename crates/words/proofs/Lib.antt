-- Laws about the definitions of specs/, for every crate above.
pub mod ChoiceLaws
pub mod GroundLaws
pub mod BitLaws
pub mod StepLaws
pub mod PartLaws
pub mod SpreadLaws
pub mod SpanLaws
