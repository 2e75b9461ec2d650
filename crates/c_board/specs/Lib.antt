-- The board as C programs see it: the pair that the host owns and lends.
pub mod Host
