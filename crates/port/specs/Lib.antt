pub mod Ways
pub mod Kinds
