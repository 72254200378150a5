pub mod Ways
pub mod Entering
pub mod Filling
