pub mod Transformers
pub mod TransformerLaws
pub mod Numbering
pub mod Ordering
pub mod Retransmission
