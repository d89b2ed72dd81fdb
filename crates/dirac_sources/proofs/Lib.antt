pub mod RawBytes
pub mod Raws
