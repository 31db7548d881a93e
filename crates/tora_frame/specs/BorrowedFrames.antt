-- The parts of a frame that borrows its packets.
use Rattle.tora_frame.specs.declared.parts.Body.{Body}
use Rattle.tora_frame.specs.declared.parts.Body.TheVariants.{Hello, Data, Ack}
use Rattle.tora_frame.specs.declared.borrowed.BorrowedBody.{BorrowedBody}
use Rattle.tora_frame.specs.declared.borrowed.BorrowedBody.TheVariants as Borrowed
use Rattle.tora_frame.specs.FrameParts.{batch}

-- the body with owned packets
abbrev pub body_of : BorrowedBody → Body
body_of Borrowed.Hello = Hello
body_of (Borrowed.Data number count packets) = Data number count (batch packets.now)
body_of (Borrowed.Ack count) = Ack count
