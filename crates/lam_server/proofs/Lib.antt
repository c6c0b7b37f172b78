pub mod Sending
pub mod Answering
pub mod Growing
pub mod OneOutput
pub mod Walking
pub mod Telling
pub mod ReadWords
pub mod FailedPulls
