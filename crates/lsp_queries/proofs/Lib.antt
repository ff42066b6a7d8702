mod Modules
mod Bound
mod Failures
mod Near
