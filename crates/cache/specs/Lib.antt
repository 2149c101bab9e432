pub mod Slots
pub mod Order
pub mod Keeping
pub mod Over
