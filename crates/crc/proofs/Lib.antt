pub mod Linear
pub mod WholeBytes
pub mod Burst
