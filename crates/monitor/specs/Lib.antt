-- What is said of the open calls.
pub mod Calls
