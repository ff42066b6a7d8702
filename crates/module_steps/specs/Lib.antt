-- What stands in a structure or a signature so far, and what is made of modules, in the words of environments, faults and signatures.
pub mod Listed
pub mod Scenes
pub mod Told
pub mod Modules
pub mod First
pub mod Closing
