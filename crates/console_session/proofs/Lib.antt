-- Laws about the definitions of specs/, and that a script may come in parts.
pub mod GatherLaws
pub mod ScriptLaws
pub mod TurnLaws
