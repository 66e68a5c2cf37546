-- Theorems on the definitions of specs/.
pub mod Tests
pub mod Bits
pub mod Formula
pub mod Implication
pub mod Lattice
pub mod Sets
pub mod Lists
pub mod Canonical
pub mod Clauses
pub mod Existence
pub mod Chains
pub mod Count
pub mod Normal
