pub mod Booking
pub mod Forecast
pub mod Lines
