pub mod PartLaws
pub mod WholeLaws
pub mod TurnedLaws
pub mod JoinedLaws
