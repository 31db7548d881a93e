pub mod FrameFields
pub mod PacketLists
pub mod FrameLaws
