pub mod Passing
pub mod Writing
