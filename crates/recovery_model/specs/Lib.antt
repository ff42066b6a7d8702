pub mod Steps
pub mod Numbers
pub mod Tested
pub mod Items
pub mod Recovery
