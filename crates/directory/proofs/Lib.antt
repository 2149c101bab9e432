pub mod Filling
pub mod Naming
pub mod Narrowing
pub mod Taken
pub mod Paths
pub mod Ranges
