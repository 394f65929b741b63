pub mod Packets
pub mod Shows
pub mod HopsMore
