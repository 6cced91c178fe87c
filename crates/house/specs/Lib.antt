pub mod Memory
pub mod Machine
pub mod Knows
pub mod Entry
pub mod Told
pub mod Does
