pub mod Sifts
pub mod Laws
