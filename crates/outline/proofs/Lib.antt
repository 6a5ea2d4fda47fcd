pub mod Draws
pub mod Within
pub mod Views
pub mod Exactly
pub mod Held
pub mod Lists
pub mod Unique
