pub mod Pages
pub mod Said
