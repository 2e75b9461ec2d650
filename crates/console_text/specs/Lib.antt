-- Text as the protocol's page has it: pages, numbers, byte strings, words of a line, commands.
pub mod Text
pub mod Numbers
pub mod Hex
pub mod Lines
pub mod Commands
