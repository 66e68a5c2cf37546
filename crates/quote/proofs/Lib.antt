-- What is shown of quotes.
pub mod Largest
pub mod Nodes
pub mod Suffixes
pub mod Onwards
pub mod Opcodes
pub mod Pass
pub mod Files
pub mod Promises
pub mod QuotedLargest
pub mod Example
pub mod Follows
pub mod Runs
