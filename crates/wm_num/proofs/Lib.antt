pub mod Sums
pub mod Digits
pub mod Counts
pub mod Rotation
