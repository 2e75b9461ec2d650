-- What the calls for C say in numbers, whichever library they are of.
pub mod Numbers
