pub mod Envelopes
