-- Where names lead.
pub mod Leading
