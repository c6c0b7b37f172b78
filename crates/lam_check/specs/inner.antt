pub mod Drawing
pub mod PlainTypes
pub mod Read
pub mod Roles
