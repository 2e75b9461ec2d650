pub mod ChipLaws
pub mod RefusalLaws
pub mod OutcomeLaws
pub mod AccessLaws
pub mod RunLaws
pub mod SheetLaws
pub mod RoundLaws
