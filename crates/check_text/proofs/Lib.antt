pub mod ImageHeaders
pub mod StepLines
pub mod Takings
pub mod Readings
