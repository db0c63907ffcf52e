pub mod Decimal
pub mod Put
pub mod Pages
pub mod Listing
