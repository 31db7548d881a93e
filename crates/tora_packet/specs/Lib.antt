pub mod PacketParts
pub mod PacketText
pub mod AnyPacket
pub mod PacketGrammar
