pub mod Entry
pub mod Refusals
pub mod Head
