pub mod BytesLaws
pub mod OutputLaws
pub mod WrittenLaws
