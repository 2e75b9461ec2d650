-- What document 02's requests say, as statements over the definitions: Copies, A1; Editions, A2; Waits and Most, A3; Forms, A5; Logs, A8.
pub mod Copies
pub mod Editions
pub mod Waits
pub mod Most
pub mod Forms
pub mod Logs
