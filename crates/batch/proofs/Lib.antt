-- Laws in the shape of the code: what a function's proof cites at each of its returns and turns.
pub mod Walking
pub mod Batching
