-- The lengths of frames.
use Rattle.std.proofs.Common.{◌≡◌, ℕ, ◌+◌, List, ◌++◌, length, sym, ap, ◌∙◌, arith}
use Rattle.tora_packet.specs.declared.Packet.{Packet}
use Rattle.tora_frame.specs.declared.parts.Version.{Version}
use Rattle.tora_frame.specs.declared.parts.Version.TheVariants.{One, Two}
use Rattle.tora_frame.specs.declared.parts.Header.{Header}
use Rattle.tora_frame.specs.declared.parts.Body.TheVariants.{Data}
use Rattle.tora_frame.specs.FrameParts.{FrameParts, batch, frame_of}
use Rattle.tora_frame.specs.FrameGrammar.{header_spelling, payload_spelling, payload_length, data_head_length, packets_length, frame_spelling}
use Rattle.tora_frame.proofs.PacketLists.{length-packets_spelling}

data_spelled : (n : ℕ) (h : Header) (number count : ℕ) (version : Version) (ps : List Packet) → 28 + data_head_length version + packets_length ps ≡ length (header_spelling 2 n h ++ payload_spelling version (Data number count (batch ps)))
data_spelled n h number count One ps = omega (arith, length-packets_spelling ps)
data_spelled n h number count Two ps = omega (arith, length-packets_spelling ps)

-- a DATA frame is as long as its head and its packets
pub data_length_is : (h : Header) (number count : ℕ) (ps : List Packet) → 28 + data_head_length h.version + packets_length ps ≡ length (frame_spelling (frame_of h (Data number count (batch ps))))
data_length_is h number count ps = data_spelled (payload_length h.version (Data number count (batch ps))) h number count h.version ps
