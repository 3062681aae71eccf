pub mod Questions
pub mod Refusals
pub mod Measures
pub mod Faults
pub mod Fractions
pub mod FractionOrders
