pub mod Applies
pub mod Isomorphism
pub mod Turned
pub mod Verdict
