pub mod Aliases
pub mod First
pub mod Sets
pub mod CountLaws
pub mod FirstLaws
pub mod SetLaws
