pub mod Read
pub mod Write
pub mod Layout
pub mod Gifts
pub mod Inner
