pub mod Sides
pub mod Kinds
pub mod Shapes
pub mod Refusals
pub mod Inner
