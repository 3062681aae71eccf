pub mod AnyOrders
pub mod Worked
pub mod Granting
pub mod Errors
