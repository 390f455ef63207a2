pub mod Peers
pub mod PeersLaws
pub mod Fifo
pub mod FifoLaws
pub mod Image
