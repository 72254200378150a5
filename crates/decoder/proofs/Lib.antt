mod Longest
mod Places
mod Standing
mod Stepping
