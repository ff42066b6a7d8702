-- Laws of specifications.
pub mod Values
pub mod ValueItems
pub mod Specifications
pub mod NodeRows
pub mod SpecificationSteps
pub mod ValueSteps
pub mod Unmade
pub mod Newest
pub mod ModuleItems
pub mod TypeItems
pub mod Asking
pub mod ModuleTerms
pub mod ModuleReads
