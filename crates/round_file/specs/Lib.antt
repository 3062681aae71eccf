pub mod Bits
pub mod Format
pub mod Reading
pub mod Listed
