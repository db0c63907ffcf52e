pub mod Tokens
pub mod Words
pub mod Inner
