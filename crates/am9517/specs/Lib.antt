-- One Am9517A, from document 01 in its order: the state, refusals, registers, who may be served, and the ranges of a state.
pub mod Fields
pub mod Editions
pub mod State
pub mod Refusals
pub mod Modes
pub mod Registers
pub mod Serving
pub mod ClosedSets
pub mod Ranges
pub mod ClosedMasks
pub mod Answers
pub mod ClosedAnswers
