pub mod PeerExamples
pub mod Peers
