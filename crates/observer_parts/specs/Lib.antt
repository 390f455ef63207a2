pub mod PacketLists
pub mod PartLaws
