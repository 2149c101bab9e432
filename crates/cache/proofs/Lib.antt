mod Rows
mod SlotLaws
mod OrderLaws
pub mod Layer
mod Group
mod Passed
