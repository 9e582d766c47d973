pub mod Fits
pub mod Needs
pub mod Lasting
pub mod Forced
pub mod Answer
pub mod Found
