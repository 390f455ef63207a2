pub mod ClockValues
