pub mod ForecastLaws
pub mod LineLaws
