pub mod Units
pub mod Lines
pub mod Positions
pub mod Edits
pub mod Document
pub mod Laws
pub mod inner
