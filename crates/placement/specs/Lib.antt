pub mod Windows
pub mod Stays
pub mod Seatings
pub mod Keeps
pub mod Arcs
pub mod Worked
