-- Which operands of expressions are constructors, labels and the word `false`, and which are non-expansive.
pub mod Nodes
pub mod FalseLaws
pub mod ConstructorLaws
pub mod LabelForms
pub mod RecordValueLaws
pub mod ValueLaws
