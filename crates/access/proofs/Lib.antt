pub mod Moving
pub mod Making
pub mod Seeking
