-- Laws in the shape of the code: what a function's proof cites at each of its returns, and what a caller has of an
-- operation struct.
pub mod Naming
