pub mod Scan
pub mod Verdict
pub mod Finding
pub mod Report
pub mod Built
