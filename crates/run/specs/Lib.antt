pub mod Books
pub mod Calls
pub mod Opening
pub mod Guarantee
pub mod Answers
