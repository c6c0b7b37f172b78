pub mod Output
pub mod Device
pub mod Run
pub mod Program
pub mod CommandLine
pub mod Words
pub mod Laws
pub mod inner
