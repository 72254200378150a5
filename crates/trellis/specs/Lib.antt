pub mod Carried
pub mod Rows
pub mod Size
pub mod State
