pub mod InFlightLaws
pub mod ClearLaws
pub mod DatagramsStay
pub mod KnownTopology
pub mod LinkPairs
pub mod MarkWords
pub mod PairBitLaws
pub mod PairOrder
pub mod PartedLaws
pub mod RoundLaws
pub mod KnownEnds
pub mod SimulationFound
pub mod SimulationHere
pub mod SimulationLaws
pub mod Starting
pub mod DirectionCountLaws
mod TableReading
mod TraceRefusals
mod RisingNames
mod CopyOwners
mod EndsByNode
pub mod ReplayHeaderLaws
pub mod ReplayLineLaws
pub mod ReplayLaws
