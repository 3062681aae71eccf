pub mod Sets
pub mod Roads
pub mod Partials
pub mod Tasks
pub mod Searches
