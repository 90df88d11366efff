pub mod Under
pub mod Steps
pub mod OneLaws
pub mod GoodLaws
