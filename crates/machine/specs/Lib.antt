pub mod Op
pub mod Form
pub mod Reason
pub mod Machine
pub mod Run
pub mod Laws
pub mod Loop
