pub mod Gap
pub mod PairPlaces
pub mod PairNames
pub mod PairChecks
pub mod PairFinds
pub mod PairSizes
