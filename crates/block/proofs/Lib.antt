pub mod Xor
pub mod Bytes
pub mod Complement
