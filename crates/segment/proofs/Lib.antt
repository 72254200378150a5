pub mod Segments
mod Steps
pub mod Calls
