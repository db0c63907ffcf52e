pub mod Order
pub mod Powers
pub mod Kinds
pub mod Tests
pub mod Good
pub mod OneToOne
pub mod Lists
pub mod Truth
