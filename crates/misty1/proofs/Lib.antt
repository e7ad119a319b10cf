pub mod Words
pub mod Rfc2994
pub mod Lookup
