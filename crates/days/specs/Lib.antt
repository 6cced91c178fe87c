pub mod Chance
pub mod Held
pub mod Played
