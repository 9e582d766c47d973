pub mod Types
pub mod Access
pub mod Exports
pub mod Module
