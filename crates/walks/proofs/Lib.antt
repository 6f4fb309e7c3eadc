-- From a walk to a function's theorem, and a slice that is lent again for a call.
pub mod Stands
pub mod Again
