-- What a visit of a node of each kind makes of a packet, a file for each kind.
pub mod Dot1qMatch
pub mod Dot1qPush
pub mod Dot1qRewrite
pub mod CrossConnect
