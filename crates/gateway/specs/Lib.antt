pub mod Damage
pub mod Limit
pub mod Marking
pub mod Noting
pub mod Orders
pub mod Serving
pub mod Summary
pub mod Tracing
