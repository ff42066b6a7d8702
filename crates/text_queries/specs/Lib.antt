-- What the outline of a text and the page of its faults mean in the definitions of `query_model`.
pub mod Outlines
pub mod Faults
