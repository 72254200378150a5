pub mod Products
pub mod Places
pub mod Ranges
