-- What an answer has no value for, and who requests.
pub mod NumberLaws
pub mod RequestingLaws
