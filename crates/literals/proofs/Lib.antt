pub mod BufferLaws
pub mod Pass
pub mod Findings
pub mod HeldLaws
