use Rattle.std.proofs.Common.{◌≤◌, length, arith}
use Rattle.tora_frame.specs.declared.parts.Header.{Header}
use Rattle.tora_frame.specs.declared.parts.Body.{Body}
use Rattle.tora_frame.specs.declared.parts.Body.TheVariants.{Hello, Data, Ack}
use Rattle.tora_frame.specs.FrameParts.{IsBody, frame_of}
use Rattle.tora_frame.specs.FrameGrammar.{frame_spelling}
use Rattle.tora_frame.proofs.FrameLaws.{length_behind, data_length_most, head_least}
use Rattle.tora_frame.proofs.encoding.longest_frame.Goals as goal

most : (header : Header) (body : Body) → IsBody header body → length (frame_spelling (frame_of header body)) ≤ 560
most header Hello ok = omega arith
most header (Data number count packets) ok =
    omega (arith, length_behind header.version packets.items, head_least header.version, data_length_most header.version packets.items ok.many)
most header (Ack count) ok = omega arith

pub returns-clause-most : goal.returns-clause-most
returns-clause-most c = λ frame ok. most frame.header frame.body ok.body
