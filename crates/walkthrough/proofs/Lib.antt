pub mod Handed
pub mod Pairs
pub mod Refused
pub mod Left
