-- Runs that the texts allow no other bytes for.
pub mod Settled
