pub mod Compared
pub mod Said
pub mod Parts
