pub mod Rule
pub mod Integers
pub mod Text
pub mod Compared
pub mod Laws
