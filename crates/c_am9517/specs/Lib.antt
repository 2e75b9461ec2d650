-- The controller as C programs see it: numbers for answers, and the chip that the host owns and lends.
pub mod Numbers
pub mod Host
