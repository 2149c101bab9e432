pub mod Names
pub mod Changes
pub mod Laws
