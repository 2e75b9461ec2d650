-- Laws about the definitions of specs/, for the proofs here and in the crates above.
pub mod RangeLaws
pub mod KeepLaws
pub mod RefusalLaws
pub mod ResultLaws
pub mod RegisterLaws
pub mod ModeLaws
pub mod TableLaws
pub mod MaskLaws
pub mod ServingLaws
