pub mod Sizes
pub mod Beyond
