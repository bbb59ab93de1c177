pub mod Interface
pub mod Usage
