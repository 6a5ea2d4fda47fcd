pub mod Argument
pub mod Input
pub mod Text
