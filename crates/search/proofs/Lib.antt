pub mod Bits
pub mod Counts
pub mod Roads
pub mod Places
pub mod Steps
pub mod Looks
pub mod Growing
pub mod Seats
