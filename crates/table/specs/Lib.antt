pub mod Banks
pub mod Build
pub mod First
pub mod Wide
pub mod Shift
pub mod Lookup
pub mod Inner
