pub mod TypeCodes
