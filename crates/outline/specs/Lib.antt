pub mod Outline
pub mod View
pub mod Cases
