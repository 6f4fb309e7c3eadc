pub mod CodecCrossing
pub mod Crossing
pub mod Determined
pub mod HandedBack
