-- Program: a file's parts as the machine's program. Tasks: what the code makes of an instruction's operands.
pub mod Program
pub mod Tasks
