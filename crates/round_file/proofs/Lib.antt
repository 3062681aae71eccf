pub mod Packing
pub mod Layouts
pub mod Lists
