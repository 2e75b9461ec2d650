-- The commands on the memory, the queue and the room, and run, round and judge, from the protocol's page.
pub mod Arrays
pub mod Services
pub mod Judging
