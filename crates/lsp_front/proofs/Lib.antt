pub mod Headers
pub mod Bodies
