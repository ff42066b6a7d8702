-- Origins that no path reaches, environments whose types and modules have names of one byte a character, types in which no rigid variable stands, and the names that nodes have for origins.
pub mod Environments
pub mod Ascii
pub mod Rigid
pub mod Named
