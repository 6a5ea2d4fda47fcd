pub mod Decimal
pub mod Listing
pub mod Written
pub mod Inner
