-- What is proved beside the functions' own contracts: that a text reads back to its number, with no spare zero and no minus zero (ReadsBack); that no second
-- outcome meets a public contract (Unique); what a caller may show of a text that was written (Shown); and document 01's listing, computed (Examples).
-- The other files are the laws that the functions' proofs cite.
pub mod Digits
pub mod Examples
pub mod Fitting
pub mod Lines
pub mod Listed
pub mod Numbers
pub mod Points
pub mod Printed
pub mod ReadsBack
pub mod Shown
pub mod Unique
