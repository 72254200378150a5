pub mod Lists
pub mod Paths
pub mod Algorithm
pub mod Theorems
pub mod Worked
