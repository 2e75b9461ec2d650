-- Memory as lines of address, bytes and letters.
pub mod Dump
