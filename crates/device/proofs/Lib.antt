pub mod Faults
pub mod Whens
pub mod Meanings
pub mod CallsLaws
pub mod GateLaws
pub mod Waits
pub mod Still
