pub mod EventLines
pub mod RollLaws
