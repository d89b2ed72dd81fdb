pub mod Quantiser
