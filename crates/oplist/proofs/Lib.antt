-- Laws in the shape of the code: what a function's proof cites at each of its returns and turns, and what a caller's
-- walk cites.
pub mod Lists
pub mod Walks
