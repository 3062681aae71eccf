pub mod Leeways
pub mod Laws
pub mod Worked
pub mod Errors
