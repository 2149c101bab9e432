pub mod Members
pub mod Classes
pub mod Maps
pub mod Prefix
pub mod Loads
pub mod Trees
pub mod Images
pub mod Laws
