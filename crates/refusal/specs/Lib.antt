pub mod Card
pub mod Faults
