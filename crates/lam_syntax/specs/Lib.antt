pub mod Trees
pub mod Letters
pub mod Views
pub mod Grammar
pub mod Respelled
pub mod Answers
pub mod Continued
pub mod inner
