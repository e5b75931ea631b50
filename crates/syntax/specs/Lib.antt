pub mod Operators
pub mod Trees
pub mod Sizes
pub mod Scope
pub mod Nodes
