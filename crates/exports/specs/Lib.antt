pub mod Codecs
pub mod Forms
