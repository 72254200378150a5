pub mod Meaning
pub mod Banded
pub mod Dense
pub mod Made
