pub mod Tests
pub mod Limits
pub mod Answers
pub mod Findings
