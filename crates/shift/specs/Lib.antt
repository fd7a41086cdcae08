pub mod Desks
pub mod Tickets
pub mod Day
