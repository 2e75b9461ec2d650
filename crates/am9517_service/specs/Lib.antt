-- Document 01, "A run of one service" and "A round", in their order.
pub mod Counts
pub mod World
pub mod Stops
pub mod Transfer
pub mod Ends
pub mod Copy
pub mod States
pub mod Run
pub mod Answers
pub mod Round
pub mod RoundAnswers
-- the most that is counted
pub mod Bounds
-- help for laws and private contracts: no rule stands there
pub mod ClosedSpans
pub mod ClosedLegs
pub mod ClosedCopies
pub mod Needs
pub mod ClosedRounds
-- one service of a round at a time, for rounds over several controllers
pub mod Turns
