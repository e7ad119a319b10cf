pub mod Meaning
pub mod Combined
