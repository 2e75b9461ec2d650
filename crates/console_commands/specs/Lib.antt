-- What the console holds, what each command does to it, and what functions of the console ask for.
pub mod Holding
pub mod Doings
pub mod Needs
