-- What the engine's own types are in the definitions, and what typed nodes and texts of types mean.
pub mod View
pub mod Texts
pub mod Typed
