pub mod Empty
pub mod Orders
pub mod Told
pub mod Views
