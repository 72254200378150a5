pub mod Charges
pub mod Kind
pub mod Sums
pub mod Orders
pub mod Strict
pub mod Graded
