pub mod KindLaws
pub mod ChangeLists
