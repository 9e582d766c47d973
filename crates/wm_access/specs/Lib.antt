pub mod AccessWidth
pub mod MemoryOrder
