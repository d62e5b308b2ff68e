-- What a visit of a node of each kind makes of a packet, a file for each kind.
pub mod EthernetDual
pub mod Ip6Input
pub mod Ip6Lookup
pub mod Ip6Rewrite
