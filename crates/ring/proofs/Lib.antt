pub mod Asking
pub mod Divisors
