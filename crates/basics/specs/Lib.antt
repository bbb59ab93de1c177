pub mod Gates
pub mod Refusals
pub mod Sets
pub mod Widths
