pub mod Fitting
pub mod Rearranging
pub mod Cases
