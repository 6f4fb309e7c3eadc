-- Laws in the shape of the code: what a function's proof cites at each of its returns and turns.
pub mod Heads
pub mod Walks
pub mod Answers
pub mod Finding
pub mod Holding
pub mod Journals
pub mod Changing
pub mod Trusting
pub mod Backwards
pub mod Classes
