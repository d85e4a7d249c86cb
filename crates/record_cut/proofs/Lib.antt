mod Examples
pub mod Cuts
pub mod Endings
pub mod Finishing
pub mod Fronts
pub mod Grammar
pub mod Openings
pub mod RoundTrip
pub mod Passed
pub mod Pieces
pub mod Rows
pub mod Runs
pub mod Sizes
pub mod Splits
pub mod Standing
pub mod Steps
pub mod Walk
pub mod Within
