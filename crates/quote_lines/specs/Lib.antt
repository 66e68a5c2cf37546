-- What is printed of a quote.
pub mod Lines
