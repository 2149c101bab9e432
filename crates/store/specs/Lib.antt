pub mod Replies
pub mod Book
pub mod Agree
pub mod Clauses
