pub mod Answers
pub mod Book
pub mod Day
