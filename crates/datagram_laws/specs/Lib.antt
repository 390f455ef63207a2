pub mod Origins
pub mod DatagramLaws
pub mod Examples
