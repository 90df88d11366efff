pub mod Leaves
pub mod PairByPair
pub mod Returns
pub mod LentReturns
pub mod ShadedLeaves
pub mod ToldLeaves
pub mod UniqueLeaves
