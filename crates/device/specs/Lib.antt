pub mod Meaning
pub mod Numbers
pub mod Promises
pub mod GroupPromises
pub mod Calls
pub mod Gate
pub mod Clauses
