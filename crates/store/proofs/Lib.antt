pub mod Images
pub mod Standing
pub mod Getting
pub mod Opening
pub mod Playing
