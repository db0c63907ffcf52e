pub mod Good
pub mod Quotient
pub mod Products
