pub mod Strips
pub mod Rising
pub mod Members
pub mod Marks
pub mod Rows
