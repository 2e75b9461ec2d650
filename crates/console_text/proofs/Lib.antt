-- Laws about the definitions of specs/.
pub mod TextLaws
pub mod NumberLaws
pub mod SignedLaws
pub mod HexLaws
pub mod LineLaws
pub mod CommandLaws
