pub mod Writing
pub mod Splitting
pub mod Answering
pub mod Printing
pub mod Streaming
