-- What every chip of the family needs: a choice, ordered grounds, bits of a byte, bytes of a word, the step over the width, and spans of a memory.
pub mod Choice
pub mod Grounds
pub mod Bits
pub mod Bytes
pub mod Steps
pub mod Spans
