pub mod Entries
pub mod Replaying
pub mod Sweeping
pub mod Recovering
