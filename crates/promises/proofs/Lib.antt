-- The promises, in document 01's order. The curve, exactly:
pub mod Rounding
pub mod Points
pub mod Exact
pub mod Limits
-- Editing an outline:
pub mod Editing
pub mod Sequences
-- Preview and drawing:
pub mod View
pub mod Preview
pub mod Drawing
-- Steps chosen by tolerance (document 02, request 3):
pub mod Tolerance
-- How far the cut strays (document 02, request 13):
pub mod Stray
-- Left and right doors (document 02, request 1):
pub mod Mirror
-- Record file, and its listing:
pub mod Listings
pub mod Depths
-- Tauter cardinal curves (document 02, request 7):
pub mod Parameters
-- Closed loops (document 02, request 8):
pub mod Loops
-- Refusal numbers:
pub mod Refusals
pub mod Lists
-- Sums to hold it to:
pub mod Cases
-- How firmly each call is tied:
pub mod Unique
