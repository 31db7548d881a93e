pub mod Chains
pub mod Calm
pub mod Places
pub mod Goings
pub mod ServedBy
mod CoreFollows
mod ItemTicks
pub mod Steps
pub mod Seats
pub mod Ups
mod Marks
pub mod Histories
pub mod ItemFacts
pub mod ItemLaws
pub mod Counts
mod CutLinks
mod CutOffers
mod RelationLeads
mod RelationHolds
mod CutsGoDown
