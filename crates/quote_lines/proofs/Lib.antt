-- Numbers in decimal, and the parts of the line.
pub mod Decimal
