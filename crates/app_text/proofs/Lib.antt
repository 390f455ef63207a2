pub mod Cuts
pub mod LastWords
pub mod Printed
