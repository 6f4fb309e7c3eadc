pub mod Digits
pub mod Waiting
