pub mod Senders
pub mod SeenLaws
pub mod Carried
pub mod Steps
pub mod Explained
