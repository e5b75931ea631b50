pub mod Layout
pub mod Blocks
pub mod Writing
pub mod Reading
pub mod Laws
