pub mod Small
pub mod Parts
pub mod Lines
pub mod Entries
