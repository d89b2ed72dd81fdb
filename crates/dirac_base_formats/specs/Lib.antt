pub mod BaseFormats
