pub use Rattle.stream.specs.Stream
pub use Rattle.protocol.specs.Numbers
pub use Rattle.protocol.specs.Rules
pub mod Model
pub mod Performs
pub mod Laws
pub mod Replay
pub mod Holds
