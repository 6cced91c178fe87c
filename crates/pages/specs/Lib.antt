pub mod Words
pub mod Bits
pub mod Geometry
pub mod Store
pub mod Touched
pub mod Commit
