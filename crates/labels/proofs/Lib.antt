-- Theorems on the definitions of specs/.
pub mod Wide
pub mod Gaps
pub mod Halves
pub mod Laws
pub mod Published
pub mod Cases
