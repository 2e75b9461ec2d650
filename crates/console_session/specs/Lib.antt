-- A script: its lines, and what they do.
pub mod Script
