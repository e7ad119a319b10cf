pub mod Steps
pub mod Modes
pub mod Pad
pub mod Lawful
