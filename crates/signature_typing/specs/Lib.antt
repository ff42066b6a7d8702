-- What the typing of module types does, in the words of faults and signatures, and what specifications make and give.
pub mod ModuleTypes
pub mod Values
pub mod ValueItems
pub mod Specifications
pub mod ValueSignatures
pub mod TypeItems
