pub mod Replay
pub mod Following
pub mod Positions
pub mod Comparison
pub mod Complete
pub mod Continuing
pub mod Texts
