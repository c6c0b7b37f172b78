pub mod LookUps
pub mod Arranging
pub mod Below
pub mod ByVariant
pub mod Keeping
pub mod UnchangedRecords
pub mod Steps
pub mod TableVerdicts
