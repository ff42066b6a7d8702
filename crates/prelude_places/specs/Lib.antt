-- Names that are defined in the prelude.
pub mod There
