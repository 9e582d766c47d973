pub mod Answers
pub mod Lines
pub mod Output
pub mod Stream
