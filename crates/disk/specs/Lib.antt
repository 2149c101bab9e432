pub mod Arm
pub mod Raw
pub mod Image
pub mod Held
pub mod HeldSound
pub mod Exact
