pub mod Steps
pub mod Notes
pub mod Seeing
pub mod Ends
pub mod Grounds
pub mod Proving
pub mod Interning
