pub mod Linked
pub mod Shown
pub mod Decoder
