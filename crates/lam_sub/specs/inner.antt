pub mod Arranging
pub mod FieldsBelow
pub mod Steps
pub mod Unchanged
