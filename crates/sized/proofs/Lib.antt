pub mod SizeLaws
pub mod KeptLaws
