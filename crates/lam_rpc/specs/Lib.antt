pub mod Kind
pub mod Reply
pub mod Fields
