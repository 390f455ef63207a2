pub mod Keeping
pub mod KeepingLaws
pub mod KeptEntries
pub mod Retransmission
pub mod RetransmissionLaws
pub mod Image
pub mod Examples
