pub mod Rotations
pub mod WayPlaces
pub mod Ways
pub mod ReplacedOrder
pub mod RowWays
pub mod ChainWays
pub mod JoinedWays
pub mod BaseWays
pub mod EachOrder
pub mod FacesRound
mod Examples
