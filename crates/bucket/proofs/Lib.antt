pub mod Sifting
pub mod Filling
pub mod Leaving
pub mod Counting
pub mod Joining
