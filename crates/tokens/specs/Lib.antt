pub mod Tokens
pub mod Lexemes
pub mod Reply
pub mod Scanning
pub mod Survey
