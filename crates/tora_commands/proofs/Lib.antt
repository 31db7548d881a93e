pub mod ConfigKeys
pub mod ConfigLists
pub mod ConfigLoops
pub mod ConfigOrder
pub mod ConfigTexts
mod NodeEnds
