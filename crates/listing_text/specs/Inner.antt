pub mod Pages
pub mod Room
