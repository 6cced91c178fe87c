pub mod Directory
pub mod Room
pub mod Row
