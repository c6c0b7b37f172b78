pub mod Index
pub mod Search
pub mod Splice
pub mod Rows
