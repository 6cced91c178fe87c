pub mod Reader
pub mod Reads
pub mod Lent
pub mod Meaning
pub mod Kind
