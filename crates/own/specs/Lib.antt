pub mod Once
pub mod OneOpen
pub mod Lenient
pub mod Cases
pub mod OnceLaws
pub mod OneOpenLaws
