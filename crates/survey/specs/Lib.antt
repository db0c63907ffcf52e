pub mod Finding
pub mod Tally
pub mod Survey
