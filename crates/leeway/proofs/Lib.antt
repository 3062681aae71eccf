pub mod Ratios
pub mod Steps
pub mod Turning
pub mod Keeping
pub mod Greatest
pub mod Cases
