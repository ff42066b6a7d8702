pub mod Gapped
pub mod Rooms
