pub mod Faults
pub mod Kinds
pub mod Parts
pub mod Entries
pub mod Events
pub mod PlaceLaws
