-- Laws about the definitions that the contracts name.
pub mod PageLaws
