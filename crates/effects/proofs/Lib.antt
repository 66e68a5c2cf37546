-- Taking: what an effect makes of the state, and what it needs. Popping: operands, as the definition pops them. Checking:
-- labels and records. Bridge: every instruction.
pub mod Taking
pub mod Popping
pub mod Checking
pub mod Bridge
