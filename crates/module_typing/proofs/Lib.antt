pub mod ItemSteps
pub mod NodeRows
