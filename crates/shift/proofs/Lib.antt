pub mod DayLaws
pub mod DeskLaws
pub mod TicketLaws
