-- Laws in the shape of the code: what a function's proof cites at each of its returns.
pub mod Reading
