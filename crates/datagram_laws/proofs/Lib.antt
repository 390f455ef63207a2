pub mod Headings
pub mod Hearing
pub mod Origins
pub mod Others
pub mod Reading
pub mod Staying
