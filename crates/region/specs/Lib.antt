-- What the region's own functions answer, over document 01's definitions.
pub mod Places
pub mod Changes
pub mod Classes
