-- Document 01, "The stored sheet", and document 02, A5: a body, and a trailer that tells its form, the distance back to it and the sum of its bytes.
pub mod Form
pub mod Bytes
pub mod ClosedSums
pub mod Body
pub mod Trailer
pub mod Sheet
pub mod Convert
