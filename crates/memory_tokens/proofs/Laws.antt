pub mod Bytes
pub mod Places
pub mod Numerals
pub mod Next
