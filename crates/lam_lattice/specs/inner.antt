pub mod Bounds
pub mod Matches
pub mod Records
