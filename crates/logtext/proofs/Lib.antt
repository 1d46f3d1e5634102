pub mod Steps
pub mod Turns
pub mod WordBytes
pub mod WordReads
pub mod RecordReads
pub mod LogReads
pub mod Examples
