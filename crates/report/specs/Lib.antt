pub mod Texts
pub mod Judging
pub mod Roll
pub mod RollLaw
pub mod VerdictLaw
