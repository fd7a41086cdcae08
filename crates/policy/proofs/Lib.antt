pub mod Bare
pub mod Drafts
pub mod Finding
