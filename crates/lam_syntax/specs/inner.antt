pub mod Run
pub mod Reads
