pub mod Readers
pub mod Numbers
pub mod Spellings
pub mod Commands
pub mod Bytes
pub mod Laws
pub mod Meanings
