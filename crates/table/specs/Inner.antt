pub mod Good
pub mod Located
pub mod Largest
