pub mod Instructions
pub mod Reading
