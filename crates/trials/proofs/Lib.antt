pub mod Followers
pub mod Starts
pub mod Pushes
pub mod Firsts
