pub mod Number
pub mod Binary
pub mod Unary
pub mod Comparison
pub mod Conversion
