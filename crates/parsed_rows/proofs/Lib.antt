pub mod Tabled
pub mod Signs
pub mod Rows
pub mod Sized
pub mod Items
pub mod Bare
