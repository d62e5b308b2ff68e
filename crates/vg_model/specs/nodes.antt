-- What a visit of a node of each kind makes of a packet, a file for each kind.
pub mod Steps
pub mod Datagram
pub mod EthernetInput
pub mod Ip4Input
pub mod Ip4Lookup
pub mod Ip4Rewrite
pub mod Interfaces
