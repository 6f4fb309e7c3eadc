pub mod Run
pub mod Promise
pub mod Beside
pub mod Display
