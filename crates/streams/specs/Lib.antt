-- What is said of the programs' streams.
pub mod Statuses
