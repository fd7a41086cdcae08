pub mod Asking
pub mod Rulings
pub mod Searches
pub mod Holders
pub mod UsersWithRole
