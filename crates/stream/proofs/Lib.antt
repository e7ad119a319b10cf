pub mod Blocks
pub mod Through
