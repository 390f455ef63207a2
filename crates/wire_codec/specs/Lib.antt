pub mod Headings
pub mod HeadingLaws
pub mod Bodies
pub mod Datagrams
pub mod DatagramLaws
pub mod Examples
