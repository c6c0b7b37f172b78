pub mod BoundOrder
pub mod Bounds
pub mod OtherFields
pub mod Remembered
pub mod inner
