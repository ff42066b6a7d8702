pub mod Fronts
pub mod Peaks
