pub mod Chains
pub mod Columns
pub mod Cycle
pub mod Edges
pub mod Sequential
pub mod Shown
