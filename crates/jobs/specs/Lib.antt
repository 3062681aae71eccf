pub mod Kinds
pub mod Radii
pub mod Asked
