pub mod Held
pub mod Laws
pub mod Register
pub mod RegisterLaws
