pub mod Facts
pub mod Calls
pub mod Machines
