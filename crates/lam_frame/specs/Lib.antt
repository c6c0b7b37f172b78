pub mod Bytes
pub mod Device
pub mod FailAt
pub mod Frame
pub mod Header
pub mod Laws
pub mod Next
pub mod inner
