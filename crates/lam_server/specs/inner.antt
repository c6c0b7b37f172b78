pub mod Answer
pub mod Waiting
pub mod Turn
pub mod Ending
