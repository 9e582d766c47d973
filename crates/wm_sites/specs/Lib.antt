pub mod Bodies
pub mod Numbering
pub mod Offsets
pub mod Sites
pub mod Opcodes
