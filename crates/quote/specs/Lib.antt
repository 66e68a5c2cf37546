-- T-04: paths through code and what they cost; the quote of a file. Read in this order.
pub mod Paths
pub mod Quoting
pub mod Passes
