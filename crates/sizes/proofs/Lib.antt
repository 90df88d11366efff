pub mod KeptLaws
pub mod FormLaws
pub mod DrawnLaws
pub mod ReadLaws
pub mod NumbersLaws
pub mod Zipped
