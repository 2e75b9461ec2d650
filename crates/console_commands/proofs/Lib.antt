-- Laws about the definitions of specs/.
pub mod HoldingLaws
pub mod ServedLaws
pub mod LineLaws
